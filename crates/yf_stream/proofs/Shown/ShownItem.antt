-- The text of a sequence of one word and a comment line: whichever part takes the comment, it is one stream.
use Rattle.std.proofs.Common.{◌≡◌, ◌≢◌, ℕ, ℤ, ◌+◌, ◌+ℤ◌, ◌<◌, ◌≤◌, Bool, true, false, List, [], ◌∷◌, ◌++◌, None, refl, sym, ap, ◌∙◌, inr, ⊎_elim, pos, arith, subst}
use Rattle.std.proofs.lemmas.Bool.{true≢false, cases_eq}
use Rattle.std.specs.Str.{chars}
use Rattle.yf_chars.specs.declared.context.Ctx.{Ctx}
use Rattle.yf_chars.specs.declared.context.Ctx.TheVariants.{BlockIn, FlowOut}
use Rattle.yf_chars.specs.Text.{before, begins, code}
use Rattle.yf_chars.specs.Class.{is_between, is_printable, is_break_char, is_nb_char, is_ns_char, is_white}
use Rattle.yf_lines.specs.Basic.{is_three}
use Rattle.yf_lines.specs.Basic.LineStart.{after_break}
use Rattle.yf_lines.specs.Basic.SeparateInLine.{at_start}
use Rattle.yf_lines.proofs.BasicLemmas.{three_first}
use Rattle.yf_comments.specs.Comment.{CommentValue}
use Rattle.yf_comments.specs.Comments.{Separate}
use Rattle.yf_comments.specs.Comments.BreakOrEnd.{by_break}
use Rattle.yf_comments.specs.Comments.LineRest.{comment}
use Rattle.yf_grammar.specs.Productions.Grammar.{BlockEntries, BlockEntry, BlockIndented, BlockNode, Derives}
use Rattle.yf_grammar.specs.Productions.Grammar.Derives.{a_block_scalar, a_block_scalar_with, a_block_collection, a_block_collection_with, a_compact_collection, a_dash_entry, a_last_entry, an_entry_before, an_indented_node, flow_in_block, flow_node, nothing_indented}
use Rattle.yf_grammar.specs.BlockReader.BlockParser.{DashAt}
use Rattle.yf_grammar.specs.Productions.Meaning.{Meaning, meaning_after, collection, entering, plain_event, scalar}
use Rattle.yf_grammar.proofs.BlockOutcomes.BlockStarts.{node_no_dash}
use Rattle.yf_grammar.proofs.Ends.GapLemmas.{Visible, separate_still}
use Rattle.yf_stream.specs.Stream.{AnyDocument, Document, Documents, ExplicitNode, Prefixes, Stream, StreamRest, document_of, with_document}
use Rattle.yf_stream.specs.Stream.AnyDocument.{bare_document, directive_document, explicit_document}
use Rattle.yf_stream.specs.Stream.ContentAt.{content_at}
use Rattle.yf_stream.specs.Stream.Stream.{begins_with_document, without_document}
use Rattle.yf_stream.specs.Stream.StreamRest.{past_explicit, past_prefix, past_suffixes, past_suffixes_and_document, stream_ended}
use Rattle.yf_stream.specs.WellFormed.{ReadsWithoutBreach, Shapes}
use Rattle.yf_stream.proofs.Shown.ShownMarkers.{item_then_comment, item_then_comment_feed_3, item_then_comment_feed_7, item_then_comment_in_node, item_then_comment_meant, item_then_comment_node, item_then_comment_text}
use Rattle.yf_stream.proofs.Shown.ShownNotes.{OneComment, Takes, all_kept, before_end, end_takes, is_simple, part_side, prefix_side, prefix_takes, rest_is, same_side, separation_side, simple, takes_two}
use Rattle.yf_stream.proofs.Shown.ShownParts.{all_at}
use Rattle.yf_stream.proofs.Shown.ShownPlain.{entries_dash, explicit_dash, is_sign, no_block_scalar, no_directive, no_pair, no_properties, no_suffix}
use Rattle.yf_stream.proofs.Shown.ShownSpaced.{Node, block_is, no_end}
use Rattle.yf_stream.proofs.Shown.ShownStreams.{comment_at}
use Rattle.yf_stream.proofs.Shown.ShownWords.{WordAt, word_at}

item_one : OneComment item_then_comment 4 8 1 (comment_at 4)
unfolding code begins chars all_at is_simple is_sign
item_one = record {
  chars = simple item_then_comment 4 1 refl;
  start = after_break item_then_comment_feed_3;
  line = comment (at_start (after_break item_then_comment_feed_3)) item_then_comment_text (by_break item_then_comment_feed_7);
  sign = refl;
  later = omega arith;
}

item_word : WordAt item_then_comment 2
unfolding code begins chars before
item_word = record { sign = item_one.chars.sign; word = refl; feed = refl; follows = inr (refl, refl) }

item_seen : Visible item_then_comment 2 × Visible item_then_comment 0
unfolding code begins chars is_ns_char is_nb_char is_printable is_break_char is_between is_white
item_seen = (record { ns = refl; no_hash = λ e. omega (arith, e) }, record { ns = refl; no_hash = λ e. omega (arith, e) })

item_dash : DashAt item_then_comment 0
unfolding code begins chars is_ns_char is_nb_char is_printable is_break_char is_between is_white
item_dash = record { dash = refl; follows = refl }

item_signs : (i c : ℕ) → is_sign c ≡ true → code item_then_comment i ≡ c → ⊥
item_signs = item_one.chars.sign

dash_first : {h m i j : ℕ} {s : Bool} {x : Meaning} → Derives item_then_comment h (BlockEntries s m) i j x → i ≡ 0
dash_first {i = i} d = let a = item_one.chars.dash i (entries_dash item_then_comment item_signs d) in omega arith

-- an entry at the dash is the word, with comments after it
record Entry (j : ℕ) (x : Meaning) : Type 0 where
  events : x.events ≡ (entering 0 None (word_at 2)).events
  escapes : x.escapes ≡ []
  finish : x.finish ≡ 3
  takes : Takes 4 (comment_at 4) 0 j x.comments
  later : 1 < j

inner_is : {h j : ℕ} {m : ℕ} {c : Ctx} {x : Meaning} → Derives item_then_comment h (BlockIndented m c) 1 j x → Node 4 (comment_at 4) 2 1 j x
unfolding code begins chars
inner_is (a_compact_collection {l = l} b s d) = absurd (let f = dash_first d in omega arith)
inner_is (an_indented_node d) = block_is item_one 1 item_word item_seen.0 refl (omega arith) (omega arith) (λ e. omega (arith, e)) (λ e. omega (arith, e)) d
inner_is (nothing_indented b l) = absurd (no_end item_one 1 item_word item_seen.0 refl (omega arith) (omega arith) (λ e. omega (arith, e)) (λ e. omega (arith, e)) l)

entry_is : {h m i j : ℕ} {s : Bool} {x : Meaning} → i ≡ 0 → Derives item_then_comment h (BlockEntry s m) i j x → Entry j x
unfolding entering scalar
entry_is {h} {m} {s = false} z d = absurd (no_pair item_then_comment item_signs d)
entry_is {j = j} {s = true} z (a_dash_entry {h = h} {m = m} {x = x} e n d) =
    let at : _ ≡ 1 = omega (arith, z) in
    let a = inner_is (subst (λ i. Derives item_then_comment h (BlockIndented m BlockIn) i j x) at d) in
    let front = same_side (comment_at 4) {i = 0} {j = 1} (omega arith) (λ l. omega arith) in
    record {
      events = rw (a.events, z) refl;
      escapes = a.escapes;
      finish = a.finish;
      takes = takes_two {y = x.comments} front a.takes;
      later = a.later;
    }

entries_are : {h m i j : ℕ} {s : Bool} {x : Meaning} → i ≡ 0 → Derives item_then_comment h (BlockEntries s m) i j x → Entry j x
entries_are z (a_last_entry d) = entry_is z d
entries_are z (an_entry_before d s r) = let a = entry_is z d in let f = dash_first r in absurd (omega (arith, a.later, f))

-- the root
record Root (j : ℕ) (x : Meaning) : Type 0 where
  events : x.events ≡ item_then_comment_node.events
  escapes : x.escapes ≡ []
  finish : x.finish ≡ 3
  takes : Takes 4 (comment_at 4) 0 j x.comments
  later : 1 < j

is_sequence : {h m i j : ℕ} {s : Bool} {x : Meaning} → Derives item_then_comment h (BlockEntries s m) i j x → s ≡ true
is_sequence {s = true} d = refl
is_sequence {s = false} (a_last_entry d) = absurd (no_pair item_then_comment item_signs d)
is_sequence {s = false} (an_entry_before d s r) = absurd (no_pair item_then_comment item_signs d)

root_is : {h i j : ℕ} {n : ℤ} {c : Ctx} {x : Meaning} → i ≡ 0 → Derives item_then_comment h (BlockNode n c) i j x → Root j x
unfolding meaning_after collection entering scalar
root_is z (a_block_scalar b s r) = absurd (no_block_scalar item_then_comment item_signs r)
root_is z (a_block_scalar_with b s f r k) = absurd (no_properties item_then_comment item_signs f)
root_is {i = i} {j = j} z (a_block_collection {k = k} {m = m} {cs = cs} {x = x} b l s a d) =
    let at : k + m ≡ 0 = dash_first d in
    let e = entries_are at d in
    let front : Takes 4 (comment_at 4) 0 0 cs = subst (λ k. Takes 4 (comment_at 4) 0 k cs) (omega (arith, at)) (subst (λ i. Takes 4 (comment_at 4) i k cs) z (end_takes item_one l)) in
    record {
      events = rw (is_sequence d, at, e.finish, e.events) refl;
      escapes = e.escapes;
      finish = e.finish;
      takes = takes_two front e.takes;
      later = e.later;
    }
root_is z (a_block_collection_with b s f l k m r) = absurd (no_properties item_then_comment item_signs f)
root_is {i = i} z (flow_in_block {k = k} {n = n} {cs = cs} b s (flow_node d) f) =
    let at = separate_still item_seen.1 (subst (λ i. Separate item_then_comment (n +ℤ pos 1) FlowOut i k cs) z s) in
    absurd (node_no_dash refl d (subst (λ k. DashAt item_then_comment k) (sym at.0) item_dash))

-- the document
no_fence : {h i j : ℕ} {x : Meaning} → ExplicitNode item_then_comment h i j x → ⊥
unfolding code begins chars is_three
no_fence {i = i} d = ⊎_elim
    (λ (z : i ≡ 0). true≢false (sym (subst (λ i. is_three item_then_comment i 45 ≡ true) z (explicit_dash d))))
    (λ (z : i ≡ 0 → ⊥).
    let f : code item_then_comment i ≢ 45 = λ e. let l = item_one.chars.dash i e in omega (arith, z) in
    true≢false (sym (explicit_dash d) ∙ three_first item_then_comment i 45 f))
    (cases_eq i 0)

front_is : {i : ℕ} {cs : List CommentValue} → Prefixes item_then_comment 0 i cs → i ≡ 0
front_is f = let a = prefix_side item_one item_seen.1.ns (λ l. absurd (omega arith)) f (omega arith) in omega arith

record Whole (j : ℕ) (d : Document) (cs : List CommentValue) : Type 0 where
  is : d ≡ document_of 0 false [] item_then_comment_node
  takes : Takes 4 (comment_at 4) 0 j cs
  later : 1 ≤ j

document_is : {h i j : ℕ} {d : Document} {cs : List CommentValue} → i ≡ 0 → AnyDocument item_then_comment h i j d cs → Whole j d cs
unfolding document_of collection entering scalar
document_is z (bare_document {i = i} {k = k} b (content_at s n c)) =
    let a = root_is z b.derived in
    let l : k ≤ 0 = separation_side item_one item_seen.1.ns (λ l. absurd (omega arith)) s (omega (arith, z)) in
    let k0 : k ≡ 0 = omega arith in
    record { is = rw (k0, a.events, a.escapes, a.finish) refl; takes = a.takes; later = omega (arith, a.later) }
document_is z (explicit_document d) = absurd (no_fence d)
document_is z (directive_document d x) = absurd (no_directive item_then_comment item_signs d)

no_rest_at_start : {h i : ℕ} {x : Documents} → i ≡ 0 → StreamRest item_then_comment h i x → ⊥
no_rest_at_start z stream_ended = let l = before_end item_one 4 35 item_one.sign (omega arith) in omega arith
no_rest_at_start z (past_prefix {k = k} f r) =
    let l : k ≤ 0 = part_side item_one item_seen.1.ns (λ l. absurd (omega arith)) f (omega arith) in no_rest_at_start (omega arith) r
no_rest_at_start z (past_suffixes s f r) = no_suffix item_then_comment item_signs s
no_rest_at_start z (past_suffixes_and_document s f a r) = no_suffix item_then_comment item_signs s
no_rest_at_start z (past_explicit d r) = no_fence d

item_only : (h : ℕ) (x : Documents) → Stream item_then_comment h x → x ≡ item_then_comment_meant
unfolding with_document
item_only h x (begins_with_document {cs = cs} {ds = ds} {d = d} {x = rest} f a r) =
    let z = front_is f in
    let whole = document_is z a in
    let b = rest_is item_one whole.later r in
    let front = takes_two (subst (λ i. Takes 4 (comment_at 4) 0 i cs) z (prefix_takes item_one f)) whole.takes in
    let all : (cs ++ ds) ++ rest.comments ≡ comment_at 4 ∷ [] = ap (λ v. (cs ++ ds) ++ v) b.comments ∙ front.taken ∙ all_kept item_one in
    rw (whole.is, b.documents, all) refl
item_only h x (without_document f r) = absurd (no_rest_at_start (front_is f) r)

item_shape : Shapes item_then_comment item_then_comment_meant
item_shape = record { height = 1; derived = item_then_comment_in_node; within = omega arith; only = λ h x d l. item_only h x d }

item_reading : ReadsWithoutBreach item_then_comment item_then_comment_meant
unfolding document_of collection entering scalar plain_event
item_reading = record { shapes = item_shape; well_formed = refl }
