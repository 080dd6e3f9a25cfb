-- The texts of a `---` line and a comment line, with a word after the marker and without: whichever part takes the
-- comment, and whether the document counts as the first or as a further one, it is one stream.
use Rattle.std.proofs.Common.{◌≡◌, ℕ, ℤ, ◌+◌, ◌<◌, ◌≤◌, true, false, List, [], ◌∷◌, ◌++◌, refl, sym, ap, ◌∙◌, ◌⊎◌, inl, inr, arith, subst, append_assoc}
use Rattle.std.proofs.lemmas.Bool.{true≢false}
use Rattle.std.specs.Str.{chars}
use Rattle.yf_chars.specs.declared.context.Ctx.{Ctx}
use Rattle.yf_chars.specs.declared.context.Ctx.TheVariants.{FlowOut}
use Rattle.yf_chars.specs.Chain.{Chain}
use Rattle.yf_chars.specs.Chain.Chain.{done, step}
use Rattle.yf_chars.specs.Text.{before, begins, code}
use Rattle.yf_chars.specs.Class.{is_between, is_printable, is_break_char, is_nb_char, is_ns_char, is_white, is_white_or_end}
use Rattle.yf_lines.specs.Basic.{ForbiddenLine, is_marker, is_three}
use Rattle.yf_lines.specs.Basic.LineStart.{after_break, at_text}
use Rattle.yf_lines.specs.Basic.SeparateInLine.{at_start}
use Rattle.yf_comments.specs.Comment.{CommentValue}
use Rattle.yf_comments.specs.Comments.{Row, Separate}
use Rattle.yf_comments.specs.Comments.BreakOrEnd.{by_break}
use Rattle.yf_comments.specs.Comments.LineRest.{comment, nothing}
use Rattle.yf_comments.specs.Comments.Separate.{in_key, in_node}
use Rattle.yf_comments.specs.Comments.SeparateLines.{in_line, over_lines}
use Rattle.yf_comments.proofs.RowLemmas.{row_functional, separate_whites}
use Rattle.yf_comments.proofs.LineEndLemmas.{line_end_rows, row_stuck_end}
use Rattle.yf_comments.proofs.SeparateLemmas.{prefix_whites}
use Rattle.yf_grammar.specs.Productions.Grammar.{BlockNode, Derives}
use Rattle.yf_grammar.specs.Productions.Grammar.Derives.{a_block_scalar, a_block_scalar_with, a_block_collection, a_block_collection_with, flow_in_block}
use Rattle.yf_grammar.proofs.FlowReader.FlowStarts.{flow_starts}
use Rattle.yf_grammar.specs.Productions.Meaning.{Meaning, empty_node, noting, plain_event, scalar}
use Rattle.yf_grammar.proofs.BlockOutcomes.BlockStarts.{block_starts, line_end_forward}
use Rattle.yf_grammar.proofs.Ends.GapLemmas.{Visible}
use Rattle.yf_stream.specs.Stream.{AnyDocument, Documents, ExplicitNode, Prefixes, Stream, StreamRest, document_of, with_comments, with_document}
use Rattle.yf_stream.specs.Stream.AnyDocument.{bare_document, directive_document, explicit_document}
use Rattle.yf_stream.specs.Stream.ExplicitNode.{marked_node, marked_nothing}
use Rattle.yf_stream.specs.Stream.Stream.{begins_with_document, without_document}
use Rattle.yf_stream.specs.Stream.StreamRest.{past_explicit, past_prefix, past_suffixes, past_suffixes_and_document, stream_ended}
use Rattle.yf_stream.specs.WellFormed.{ReadsWithoutBreach, Shapes}
use Rattle.yf_stream.proofs.Shown.ShownParts.{all_at}
use Rattle.yf_stream.proofs.Shown.ShownPlain.{entries_dash, is_sign, no_block_scalar, no_directive, no_properties, no_suffix}
use Rattle.yf_stream.proofs.Shown.ShownNotes.{OneComment, Takes, all_kept, before_end, end_takes, is_simple, kept, part_side, part_takes, prefix_side, prefix_takes, rest_is, same_side, simple, takes_two}
use Rattle.yf_stream.proofs.Shown.ShownMarkers.{marked_word_then_comment, marked_word_then_comment_feed_5, marked_word_then_comment_feed_9, marked_word_then_comment_in_node, marked_word_then_comment_text, marker_then_comment, marker_then_comment_feed_3, marker_then_comment_feed_7, marker_then_comment_text, marker_then_comment_with_marker}
use Rattle.yf_stream.proofs.Shown.ShownSpaced.{block_is, no_end}
use Rattle.yf_stream.proofs.Shown.ShownStreams.{comment_at}
use Rattle.yf_stream.proofs.Shown.ShownWords.{WordAt, whites_stay, word_at}

-- the node of the document, with comments in it
record Marked (p d : ℕ) (remark : CommentValue) (m : Meaning) (j : ℕ) (x : Meaning) : Type 0 where
  events : x.events ≡ m.events
  escapes : x.escapes ≡ m.escapes
  finish : x.finish ≡ m.finish
  takes : Takes p remark 0 j x.comments
  later : d ≤ j

-- one document after a `---`, and one comment
abbrev one_marked : Meaning → CommentValue → Documents
one_marked m remark = record { documents = document_of 0 true [] m ∷ []; comments = remark ∷ [] }

module _ {t : List ℕ} {p e d : ℕ} {remark : CommentValue} (o : OneComment t p e d remark) (m : Meaning) (later : 0 < p) (fence : ForbiddenLine t 0) (seen : Visible t 0)
    (node_is : (h j : ℕ) (x : Meaning) → ExplicitNode t h 0 j x → Marked p d remark m j x) where
  -- the text after the start
  record From (i : ℕ) (x : Documents) : Type 0 where
    documents : x.documents ≡ document_of 0 true [] m ∷ []
    comments : x.comments ≡ kept p remark i

  front_is : {i : ℕ} {cs : List CommentValue} → Prefixes t 0 i cs → i ≡ 0
  front_is f = let a = prefix_side o seen.ns (λ l. absurd (omega arith)) f (omega arith) in omega arith

  marked_from : {h j : ℕ} {x : Meaning} {y : Documents} → Marked p d remark m j x → StreamRest t h j y → From 0 (with_document x.comments (document_of 0 true [] x) y)
  unfolding with_document document_of
  marked_from {x = x} a r =
      let b = rest_is o a.later r in
      record {
        documents = rw (a.events, a.escapes, a.finish, b.documents) refl;
        comments = ap (λ v. x.comments ++ v) b.comments ∙ a.takes.taken;
      }

  from_start : {h i : ℕ} {x : Documents} → i ≡ 0 → StreamRest t h i x → From i x
  unfolding with_comments
  from_start f stream_ended = let l = before_end o p 35 o.sign (omega arith) in absurd (omega arith)
  from_start {i = i} f (past_prefix {k = k} {cs = cs} g r) =
      let l : k ≤ 0 = part_side o seen.ns (λ l. absurd (omega arith)) g (omega arith) in
      let a = from_start (omega arith) r in
      record { documents = a.documents; comments = ap (λ v. cs ++ v) a.comments ∙ (part_takes o g).taken }
  from_start f (past_suffixes s g r) = absurd (no_suffix t o.chars.sign s)
  from_start f (past_suffixes_and_document s g a r) = absurd (no_suffix t o.chars.sign s)
  from_start {x = y} f (past_explicit {h = h} {i = i} {j = j} {x = x} {rest = rest} n r) =
      let a = marked_from (node_is h j x (subst (λ i. ExplicitNode t h i j x) f n)) r in
      subst (λ i. From i (with_document x.comments (document_of i true [] x) rest)) (sym f) a

  document_is : {h g j : ℕ} {d : _} {cs : List CommentValue} {y : Documents} → AnyDocument t h 0 j d cs → StreamRest t g j y → From 0 (with_document cs d y)
  document_is (bare_document {j = j} b c) r = absurd (b.clear.none 0 (omega arith) (block_starts b.derived) fence)
  document_is (explicit_document {h = h} {j = j} {x = x} n) r = marked_from (node_is h j x n) r
  document_is (directive_document n x) r = absurd (no_directive t o.chars.sign n)

  one_marked_only : (h : ℕ) (x : Documents) → Stream t h x → x ≡ one_marked m remark
  unfolding with_document with_comments
  one_marked_only h x (begins_with_document {h = k} {i = i} {j = j} {cs = cs} {ds = ds} {d = a} {x = rest} f n r) =
      let z = front_is f in
      let b = document_is (subst (λ i. AnyDocument t k i j a ds) z n) r in
      let c = subst (λ i. Takes p remark 0 i cs) z (prefix_takes o f) in
      let all : (cs ++ ds) ++ rest.comments ≡ remark ∷ [] = append_assoc cs ds rest.comments ∙ ap (λ v. cs ++ v) b.comments ∙ c.taken ∙ all_kept o in
      rw (b.documents, all) refl
  one_marked_only h x (without_document {cs = cs} {x = rest} f r) =
      let z = front_is f in
      let b = from_start z r in
      let all : cs ++ rest.comments ≡ remark ∷ [] = ap (λ v. cs ++ v) b.comments ∙ (prefix_takes o f).taken ∙ all_kept o in
      rw (b.documents, all) refl

-- `a` after the marker
marked_word_one : OneComment marked_word_then_comment 6 10 3 (comment_at 6)
unfolding code begins chars all_at is_simple is_sign
marked_word_one = record {
  chars = simple marked_word_then_comment 6 3 refl;
  start = after_break marked_word_then_comment_feed_5;
  line = comment (at_start (after_break marked_word_then_comment_feed_5)) marked_word_then_comment_text (by_break marked_word_then_comment_feed_9);
  sign = refl;
  later = omega arith;
}

marked_word_at : WordAt marked_word_then_comment 4
unfolding code begins chars before
marked_word_at = record { sign = marked_word_one.chars.sign; word = refl; feed = refl; follows = inr (refl, refl) }

marked_word_seen : Visible marked_word_then_comment 4 × Visible marked_word_then_comment 0
unfolding code begins chars is_ns_char is_nb_char is_printable is_break_char is_between is_white
marked_word_seen = (record { ns = refl; no_hash = λ e. omega (arith, e) }, record { ns = refl; no_hash = λ e. omega (arith, e) })

marked_word_fence : ForbiddenLine marked_word_then_comment 0
unfolding code begins chars is_marker is_three is_white_or_end is_white is_break_char
marked_word_fence = record { start = at_text; marker = refl }

marked_word_node : (h j : ℕ) (x : Meaning) → ExplicitNode marked_word_then_comment h 0 j x → Marked 6 3 (comment_at 6) (word_at 4) j x
unfolding code begins chars
marked_word_node h j x (marked_node n b) =
    let a = block_is marked_word_one 3 marked_word_at marked_word_seen.0 refl (omega arith) (omega arith) (λ e. omega (arith, e)) (λ e. omega (arith, e)) b.derived in
    record {
      events = a.events;
      escapes = a.escapes;
      finish = a.finish;
      takes = takes_two {y = x.comments} (same_side (comment_at 6) (omega arith) (λ l. omega arith)) a.takes;
      later = omega (arith, a.later);
    }
marked_word_node h j x (marked_nothing n l) =
    absurd (no_end marked_word_one 3 marked_word_at marked_word_seen.0 refl (omega arith) (omega arith) (λ e. omega (arith, e)) (λ e. omega (arith, e)) l)

marked_word_shape : Shapes marked_word_then_comment (one_marked (word_at 4) (comment_at 6))
marked_word_shape = record {
  height = 0;
  derived = marked_word_then_comment_in_node;
  within = omega arith;
  only = λ h x d l. one_marked_only marked_word_one (word_at 4) (omega arith) marked_word_fence marked_word_seen.1 marked_word_node h x d;
}

marked_word_reading : ReadsWithoutBreach marked_word_then_comment (one_marked (word_at 4) (comment_at 6))
unfolding document_of scalar plain_event
marked_word_reading = record { shapes = marked_word_shape; well_formed = refl }

-- nothing after the marker
marker_one : OneComment marker_then_comment 4 8 3 (comment_at 4)
unfolding code begins chars all_at is_simple is_sign
marker_one = record {
  chars = simple marker_then_comment 4 3 refl;
  start = after_break marker_then_comment_feed_3;
  line = comment (at_start (after_break marker_then_comment_feed_3)) marker_then_comment_text (by_break marker_then_comment_feed_7);
  sign = refl;
  later = omega arith;
}

marker_seen : Visible marker_then_comment 0
unfolding code begins chars is_ns_char is_nb_char is_printable is_break_char is_between is_white
marker_seen = record { ns = refl; no_hash = λ e. omega (arith, e) }

marker_fence : ForbiddenLine marker_then_comment 0
unfolding code begins chars is_marker is_three is_white_or_end is_white is_break_char
marker_fence = record { start = at_text; marker = refl }

-- the possible ends of lines after the marker; no white space is there, and no node begins
marker_places : {i j : ℕ} {cs : List CommentValue} → (i ≡ 3) ⊎ ((i ≡ 4) ⊎ (i ≡ 8)) → Chain (Row marker_then_comment) i j cs → (j ≡ 3) ⊎ ((j ≡ 4) ⊎ (j ≡ 8))
marker_places a done = a
marker_places {i} a (step {h = h} {x = x} r c) = marker_places (inr (row a)) c where
  row : (i ≡ 3) ⊎ ((i ≡ 4) ⊎ (i ≡ 8)) → (h ≡ 4) ⊎ (h ≡ 8)
  row (inl f) = inl (row_functional.one_end (subst (λ i. Row marker_then_comment i h x) f r) (record { rest = nothing (by_break marker_then_comment_feed_3); later = omega arith }))
  row (inr (inl f)) = inr (row_functional.one_end (subst (λ i. Row marker_then_comment i h x) f r) (record { rest = marker_one.line; later = omega arith }))
  row (inr (inr f)) = absurd ((row_stuck_end {t = marker_then_comment} refl).none h x (subst (λ i. Row marker_then_comment i h x) f r))

marker_dead : {i : ℕ} → (i ≡ 3) ⊎ ((i ≡ 4) ⊎ (i ≡ 8)) → (is_white (code marker_then_comment i) ≡ false) × (Visible marker_then_comment i → ⊥)
unfolding code begins chars is_ns_char is_nb_char is_printable is_break_char is_between is_white
marker_dead (inl f) = rw f (refl, λ v. true≢false (sym v.ns))
marker_dead (inr (inl f)) = rw f (refl, λ v. v.no_hash refl)
marker_dead (inr (inr f)) = rw f (refl, λ v. true≢false (sym v.ns))

marker_no_word : {n : ℤ} {k : ℕ} {cs : List CommentValue} → Separate marker_then_comment n FlowOut 3 k cs → Visible marker_then_comment k → ⊥
marker_no_word (in_key e s) v = true≢false (sym e)
marker_no_word {k = k} (in_node e (in_line s)) v =
    let a = marker_dead (inl refl) in a.1 (subst (λ i. Visible marker_then_comment i) (whites_stay a.0 (separate_whites s).1) v)
marker_no_word {k = k} (in_node e (over_lines l f)) v =
    let a = marker_dead (marker_places (inl refl) (line_end_rows l)) in
    a.1 (subst (λ i. Visible marker_then_comment i) (whites_stay a.0 (prefix_whites f).1) v)

marker_no_node : {h j : ℕ} {n : ℤ} {c : Ctx} {x : Meaning} → Derives marker_then_comment h (BlockNode n c) 3 j x → ⊥
marker_no_node (a_block_scalar b s r) = no_block_scalar marker_then_comment marker_one.chars.sign r
marker_no_node (a_block_scalar_with b s f r k) = no_properties marker_then_comment marker_one.chars.sign f
marker_no_node (a_block_collection {k = k} {m = m} b l s a r) =
    let f = marker_one.chars.dash (k + m) (entries_dash marker_then_comment marker_one.chars.sign r) in let u = line_end_forward l in omega arith
marker_no_node (a_block_collection_with b s f l k m r) = no_properties marker_then_comment marker_one.chars.sign f
marker_no_node (flow_in_block b s r f) = marker_no_word s (flow_starts r refl).starts.visible

marker_node : (h j : ℕ) (x : Meaning) → ExplicitNode marker_then_comment h 0 j x → Marked 4 3 (comment_at 4) (empty_node 3) j x
unfolding noting empty_node
marker_node h j x (marked_node n b) = absurd (marker_no_node b.derived)
marker_node h j x (marked_nothing {cs = cs} n l) = record {
  events = refl;
  escapes = refl;
  finish = refl;
  takes = takes_two {y = cs} (same_side (comment_at 4) (omega arith) (λ l. omega arith)) (end_takes marker_one l);
  later = line_end_forward l;
}

marker_shape : Shapes marker_then_comment (one_marked (empty_node 3) (comment_at 4))
marker_shape = record {
  height = 0;
  derived = marker_then_comment_with_marker;
  within = omega arith;
  only = λ h x d l. one_marked_only marker_one (empty_node 3) (omega arith) marker_fence marker_seen marker_node h x d;
}

marker_reading : ReadsWithoutBreach marker_then_comment (one_marked (empty_node 3) (comment_at 4))
unfolding document_of empty_node plain_event
marker_reading = record { shapes = marker_shape; well_formed = refl }
