-- The texts of one word and one comment line: whichever part takes the comment, it is one stream, so each has one
-- shape.
use Rattle.std.proofs.Common.{◌≡◌, ◌≢◌, ℕ, ℤ, pos, ◌+◌, ◌+ℤ◌, ◌-ℤ◌, ◌<◌, ◌≤◌, false, List, [], ◌∷◌, ◌++◌, refl, sym, ap, ◌∙◌, ◌⊎◌, inl, inr, ⊎_elim, arith, subst}
use Rattle.std.proofs.lemmas.Bool.{cases_lt}
use Rattle.std.specs.Str.{chars}
use Rattle.yf_chars.specs.declared.context.Ctx.{Ctx}
use Rattle.yf_chars.specs.declared.context.Ctx.TheVariants.{BlockIn, FlowOut}
use Rattle.yf_chars.specs.Text.{before, begins, code}
use Rattle.yf_chars.specs.Class.{is_between, is_printable, is_break_char, is_nb_char, is_ns_char, is_white}
use Rattle.yf_chars.specs.Chain.Chain.{done, step}
use Rattle.yf_lines.specs.Basic.{SeparateInLine}
use Rattle.yf_lines.specs.Basic.SeparateInLine.{at_start}
use Rattle.yf_lines.proofs.BasicLemmas.{break_char}
use Rattle.yf_lines.specs.Basic.LineStart.{after_break, at_text}
use Rattle.yf_comments.specs.Comment.{CommentValue}
use Rattle.yf_comments.specs.Comments.{BreakOrEnd}
use Rattle.yf_comments.specs.Comments.BreakOrEnd.{by_break, by_end}
use Rattle.yf_comments.specs.Comments.LineRest.{comment}
use Rattle.yf_comments.specs.Comments.CommentLine.{comment_line, whites_line}
use Rattle.yf_comments.proofs.RowLemmas.{separate_whites}
use Rattle.yf_grammar.proofs.Ends.Forward.{in_line_forward}
use Rattle.yf_grammar.specs.Productions.Grammar.{BlockNode, Derives, FlowNode}
use Rattle.yf_grammar.specs.Productions.Grammar.Derives.{a_block_scalar, a_block_scalar_with, a_block_collection, a_block_collection_with, flow_in_block}
use Rattle.yf_grammar.specs.Productions.Meaning.{Meaning, meaning_after, noting, plain_event, scalar}
use Rattle.yf_grammar.proofs.Ends.GapLemmas.{Visible, separate_still}
use Rattle.yf_stream.specs.Stream.{AnyDocument, ContentAt, Document, Documents, Prefixes, Stream, StreamRest, document_of, with_document}
use Rattle.yf_stream.specs.Stream.AnyDocument.{bare_document, directive_document, explicit_document}
use Rattle.yf_stream.specs.Stream.ContentAt.{content_at}
use Rattle.yf_stream.specs.Stream.PrefixPart.{order_mark, prefix_comment}
use Rattle.yf_stream.specs.Stream.Stream.{begins_with_document, without_document}
use Rattle.yf_stream.specs.Stream.StreamRest.{past_explicit, past_prefix, past_suffixes, past_suffixes_and_document, stream_ended}
use Rattle.yf_stream.specs.WellFormed.{ReadsWithoutBreach, Shapes}
use Rattle.yf_stream.proofs.Shown.ShownParts.{all_at}
use Rattle.yf_stream.proofs.Shown.ShownStreams.{comment_at, comment_then_word, comment_then_word_feed_3, comment_then_word_read, comment_then_word_text, word_then_comment, word_then_comment_feed_1, word_then_comment_feed_5, word_then_comment_in_node, word_then_comment_text}
use Rattle.yf_stream.proofs.Shown.ShownPlain.{is_sign, no_block_scalar, no_directive, no_entries, no_explicit, no_properties, no_suffix}
use Rattle.yf_stream.proofs.Shown.ShownNotes.{OneComment, Takes, all_kept, before_end, end_takes, is_simple, part_side, prefix_forward, prefix_side, prefix_takes, remark_is, rest_is, same_side, separation_side, simple, takes_two}
use Rattle.yf_stream.proofs.Shown.ShownWords.{WordAt, flow_is, whites_stay, word_at}

-- a block node that is the word, with comments round it
pub record Node (p : ℕ) (remark : CommentValue) (q j : ℕ) (x : Meaning) : Type 0 where
  pub events : x.events ≡ (word_at q).events
  pub escapes : x.escapes ≡ (word_at q).escapes
  pub finish : x.finish ≡ (word_at q).finish
  pub takes : Takes p remark q j x.comments

-- one document, which is the word, and one comment
abbrev pub one_stream : ℕ → CommentValue → Documents
one_stream q remark = record { documents = document_of q false [] (word_at q) ∷ []; comments = remark ∷ [] }

module _ {t : List ℕ} {p e q : ℕ} {remark : CommentValue} (o : OneComment t p e 0 remark) (w : WordAt t q) (seen : Visible t q) (apart : p ≤ q → e ≤ q)
    (begins_at : (i k : ℕ) (cs : List CommentValue) → Prefixes t 0 i cs → ContentAt t i k → (i ≡ q) × (k ≡ q)) where
  no_dash : (i : ℕ) → code t i ≢ 45
  no_dash i f = let l = o.chars.dash i f in omega arith

  other_place : q ≢ p
  other_place f = let a = ap (code t) f ∙ o.sign in let b = w.word in omega (arith, sym b ∙ a)

  word_takes : Takes p remark q (q + 1) []
  word_takes = same_side remark (omega arith) (λ l. let f = other_place in omega (arith, f))

  block_is : {h j : ℕ} {n : ℤ} {c : Ctx} {x : Meaning} → Derives t h (BlockNode n c) q j x → Node p remark q j x
  unfolding meaning_after noting scalar
  block_is (a_block_scalar b s d) = absurd (no_block_scalar t o.chars.sign d)
  block_is (a_block_scalar_with b s f r d) = absurd (no_properties t o.chars.sign f)
  block_is (a_block_collection b l s m d) = absurd (no_entries t o.chars.sign no_dash d)
  block_is (a_block_collection_with b s f l k m d) = absurd (no_properties t o.chars.sign f)
  block_is {j = j} (flow_in_block {h = h} {k = k} {l = l} {n = n} {cs = cs} {ds = ds} {x = x} b s d f) =
      let a = separate_still seen s in
      let r = flow_is w (subst (λ k. Derives t h (FlowNode (n +ℤ pos 1) FlowOut) k l x) a.0 d) in
      let rest : Takes p remark (q + 1) j ds = subst (λ l. Takes p remark l j ds) r.0 (end_takes o f) in
      record {
        events = ap (λ m. m.events) r.1;
        escapes = ap (λ m. m.escapes) r.1;
        finish = ap (λ m. m.finish) r.1;
        takes = rw (a.1, r.1) (takes_two word_takes rest);
      }

  record Whole (j : ℕ) (d : Document) (cs : List CommentValue) : Type 0 where
    is : d ≡ document_of q false [] (word_at q)
    takes : Takes p remark q j cs

  document_is : {h i j : ℕ} {d : Document} {ds cs : List CommentValue} → Prefixes t 0 i ds → AnyDocument t h i j d cs → (i ≡ q) × Whole j d cs
  unfolding document_of scalar
  document_is {h} {i} {j} {ds = ds} f (bare_document {k = k} {x = x} b c) =
      let at = begins_at i k ds f c in
      let a = block_is (subst (λ i. Derives t h (BlockNode (pos 0 -ℤ pos 1) BlockIn) i j x) at.0 b.derived) in
      (at.0, record { is = rw (at.1, a.events, a.escapes, a.finish) refl; takes = a.takes })
  document_is f (explicit_document d) = absurd (no_explicit t o.chars.sign no_dash d)
  document_is f (directive_document d x) = absurd (no_directive t o.chars.sign d)

  -- the text after the document begins after the word
  rest_later : {h i : ℕ} {x : Documents} → StreamRest t h i x → q < i
  rest_later stream_ended = before_end o q 97 w.word (omega arith)
  rest_later {i = i} (past_prefix f r) =
      ⊎_elim (λ m. m) (λ m. let n = part_side o seen.ns apart f m in let l = rest_later r in absurd (omega arith)) (cases_lt q i)
  rest_later (past_suffixes s f r) = absurd (no_suffix t o.chars.sign s)
  rest_later (past_suffixes_and_document s f d r) = absurd (no_suffix t o.chars.sign s)
  rest_later (past_explicit d r) = absurd (no_explicit t o.chars.sign no_dash d)

  pub one_stream_only : (h : ℕ) (x : Documents) → Stream t h x → x ≡ one_stream q remark
  unfolding with_document
  one_stream_only h x (begins_with_document {cs = cs} {ds = ds} {d = d} {x = rest} f a r) =
      let whole = document_is f a in
      let m = rest_is o (omega arith) r in
      let front = takes_two (subst (λ i. Takes p remark 0 i cs) whole.0 (prefix_takes o f)) whole.1.takes in
      let all : (cs ++ ds) ++ rest.comments ≡ remark ∷ [] = ap (λ v. (cs ++ ds) ++ v) m.comments ∙ front.taken ∙ all_kept o in
      rw (whole.1.is, m.documents, all) refl
  one_stream_only h x (without_document f r) = let l = rest_later r in let m = prefix_side o seen.ns apart f (omega arith) in absurd (omega arith)

-- the word, and the comment line
word_then_comment_one : OneComment word_then_comment 2 6 0 (comment_at 2)
unfolding code begins chars all_at is_simple is_sign
word_then_comment_one = record {
  chars = simple word_then_comment 2 0 refl;
  start = after_break word_then_comment_feed_1;
  line = comment (at_start (after_break word_then_comment_feed_1)) word_then_comment_text (by_break word_then_comment_feed_5);
  sign = refl;
  later = omega arith;
}

word_then_comment_at : WordAt word_then_comment 0
unfolding code begins chars before
word_then_comment_at = record { sign = word_then_comment_one.chars.sign; word = refl; feed = refl; follows = inr (refl, refl) }

word_then_comment_seen : Visible word_then_comment 0
unfolding code begins chars is_ns_char is_nb_char is_printable is_break_char is_between is_white
word_then_comment_seen = record { ns = refl; no_hash = λ e. omega (arith, e) }

word_then_comment_begins : (i k : ℕ) (cs : List CommentValue) → Prefixes word_then_comment 0 i cs → ContentAt word_then_comment i k → (i ≡ 0) × (k ≡ 0)
word_then_comment_begins i k cs f (content_at s n c) =
    let a = prefix_side word_then_comment_one word_then_comment_seen.ns (λ l. absurd (omega arith)) f (omega arith) in
    let b = separation_side word_then_comment_one word_then_comment_seen.ns (λ l. absurd (omega arith)) s a in
    (omega arith, omega arith)

word_then_comment_shape : Shapes word_then_comment (one_stream 0 (comment_at 2))
word_then_comment_shape = record {
  height = 0;
  derived = word_then_comment_in_node;
  within = omega arith;
  only = λ h x d l. one_stream_only word_then_comment_one word_then_comment_at word_then_comment_seen (λ m. absurd (omega arith)) word_then_comment_begins h x d;
}

word_then_comment_reading : ReadsWithoutBreach word_then_comment (one_stream 0 (comment_at 2))
unfolding document_of scalar plain_event
word_then_comment_reading = record { shapes = word_then_comment_shape; well_formed = refl }

-- the comment line, and the word
comment_then_word_one : OneComment comment_then_word 0 4 0 (comment_at 0)
unfolding code begins chars all_at is_simple is_sign
comment_then_word_one = record {
  chars = simple comment_then_word 0 0 refl;
  start = at_text;
  line = comment (at_start at_text) comment_then_word_text (by_break comment_then_word_feed_3);
  sign = refl;
  later = omega arith;
}

comment_then_word_at : WordAt comment_then_word 4
unfolding code begins chars before
comment_then_word_at = record { sign = comment_then_word_one.chars.sign; word = refl; feed = refl; follows = inl refl }

comment_then_word_seen : Visible comment_then_word 4
unfolding code begins chars is_ns_char is_nb_char is_printable is_break_char is_between is_white
comment_then_word_seen = record { ns = refl; no_hash = λ e. omega (arith, e) }

-- no white space is at the start of the text, and no line ends there
comment_then_word_still : {k : ℕ} → SeparateInLine comment_then_word 0 k → k ≡ 0
unfolding code begins chars is_white
comment_then_word_still s = whites_stay refl (separate_whites s).1

comment_then_word_no_end : {k : ℕ} → BreakOrEnd comment_then_word 0 k → ⊥
unfolding code begins chars
comment_then_word_no_end (by_break b) = ⊎_elim (λ e. omega (arith, e)) (λ e. omega (arith, e)) (break_char b)
comment_then_word_no_end (by_end e) = omega (arith, e)

comment_then_word_front : {i : ℕ} {cs : List CommentValue} → Prefixes comment_then_word 0 i cs → (i ≡ 0) ⊎ (i ≡ 4)
comment_then_word_front done = inl refl
comment_then_word_front (step (order_mark f) c) = absurd (comment_then_word_one.chars.mark _ f)
comment_then_word_front (step (prefix_comment (whites_line {j = j} s b)) c) =
    absurd (comment_then_word_no_end (subst (λ h. BreakOrEnd comment_then_word h j) (comment_then_word_still s) b))
comment_then_word_front {i} (step {h = h} {y = y} (prefix_comment (comment_line s r b)) c) =
    let k = (remark_is comment_then_word_one r b).1.0 in
    let m = prefix_side comment_then_word_one comment_then_word_seen.ns (λ l. omega arith) c (omega arith) in
    let n = prefix_forward comment_then_word_one c in inr (omega arith)

comment_then_word_begins : (i k : ℕ) (cs : List CommentValue) → Prefixes comment_then_word 0 i cs → ContentAt comment_then_word i k → (i ≡ 4) × (k ≡ 4)
unfolding code begins chars
comment_then_word_begins i k cs f (content_at s n c) = ⊎_elim
    (λ (e : i ≡ 0). let a = comment_then_word_still (subst (λ i. SeparateInLine comment_then_word i k) e s) in absurd (c (ap (code comment_then_word) a)))
    (λ (e : i ≡ 4).
    let a : k ≤ 4 = separation_side comment_then_word_one comment_then_word_seen.ns (λ l. omega arith) s (omega (arith, e)) in
    let b = in_line_forward s in (e, omega arith))
    (comment_then_word_front f)

comment_then_word_shape : Shapes comment_then_word (one_stream 4 (comment_at 0))
comment_then_word_shape = record {
  height = 0;
  derived = comment_then_word_read;
  within = omega arith;
  only = λ h x d l. one_stream_only comment_then_word_one comment_then_word_at comment_then_word_seen (λ m. omega arith) comment_then_word_begins h x d;
}

comment_then_word_reading : ReadsWithoutBreach comment_then_word (one_stream 4 (comment_at 0))
unfolding document_of scalar plain_event
comment_then_word_reading = record { shapes = comment_then_word_shape; well_formed = refl }
