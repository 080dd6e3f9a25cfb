-- The comments of a stream, and those of a reading, are in text order and within the text, and each begins with its
-- sign.
use Rattle.std.proofs.Common.{◌≡◌, ℕ, suc, zero, ◌+◌, ◌<◌, ◌≤◌, List, [], ◌∷◌, length, subst, ⊎_elim, arith}
use Rattle.std.proofs.lemmas.Bool.{cases_lt}
use Rattle.std.specs.Prelude.{slice_index_or}
use Rattle.std.specs.List.Sorted.{IsNonDecreasingBy}
use Rattle.yf_chars.specs.Chain.Chain.{done, step}
use Rattle.yf_chars.specs.Text.{code}
use Rattle.yf_chars.proofs.ChainLemmas.{chain_one}
use Rattle.yf_chars.proofs.TextLemmas.{next_later}
use Rattle.yf_comments.specs.Comment.{CommentValue}
use Rattle.yf_comments.proofs.LineEndLemmas.{lines_rows}
use Rattle.yf_events.specs.Event.{EventInText}
use Rattle.yf_events.specs.declared.lists.Lists.{Lists}
use Rattle.yf_grammar.specs.Productions.Meaning.{Meaning, empty_node, noting}
use Rattle.yf_grammar.proofs.Documents.CommentOrder.{Ascend, no_more, one_more, ascend_after, ascend_join, ascend_order, derived_ascends, end_ascends, rows_ascend}
use Rattle.yf_stream.specs.ReadingOf.{NotedComments, no_comment, one_comment, ReadingOf}
use Rattle.yf_stream.specs.Stream.{AnyDocument, DirectiveLines, Directives, Document, Documents, ExplicitNode, PrefixPart, Prefixes, Stream, StreamRest, Suffixes, with_comments, with_document}
use Rattle.yf_stream.specs.Stream.AnyDocument.{bare_document, directive_document, explicit_document}
use Rattle.yf_stream.specs.Stream.DirectiveLines.{last_directive, more_directives}
use Rattle.yf_stream.specs.Stream.ExplicitNode.{marked_node, marked_nothing}
use Rattle.yf_stream.specs.Stream.PrefixPart.{order_mark, prefix_comment}
use Rattle.yf_stream.specs.Stream.Stream.{begins_with_document, without_document}
use Rattle.yf_stream.specs.Stream.StreamRest.{past_explicit, past_prefix, past_suffixes, past_suffixes_and_document, stream_ended}
use Rattle.yf_stream.specs.Stream.Suffixes.{last_suffix, more_suffixes}
use Rattle.yf_stream.proofs.Offsets.DirectiveOrder.{parameters_forward}

module _ {t : List ℕ} where
  -- directives
  pub directives_ascend : {i j : ℕ} {x : Directives} → DirectiveLines t i j x → Ascend t i x.comments j
  directives_ascend (last_directive e r p d) = let f = r.some in let g = parameters_forward p in ascend_after (omega arith) (end_ascends d)
  directives_ascend (more_directives a b) = ascend_join (directives_ascend a) (directives_ascend b)

  -- the parts of a stream
  part_ascends : {i j : ℕ} {x : List CommentValue} → PrefixPart t i j x → Ascend t i x j
  part_ascends (order_mark {i = i} e) = let l = next_later t i in no_more (omega arith)
  part_ascends (prefix_comment c) = rows_ascend (lines_rows (chain_one c))

  parts_ascend : {i j : ℕ} {x : List CommentValue} → Prefixes t i j x → Ascend t i x j
  parts_ascend done = no_more (omega arith)
  parts_ascend (step s c) = ascend_join (part_ascends s) (parts_ascend c)

  suffixes_ascend : {i j : ℕ} {x : List CommentValue} → Suffixes t i j x → Ascend t i x j
  suffixes_ascend (last_suffix e d) = ascend_after (omega arith) (end_ascends d)
  suffixes_ascend (more_suffixes e d s) = ascend_join (ascend_after (omega arith) (end_ascends d)) (suffixes_ascend s)

  pub explicit_ascends : {h i j : ℕ} {x : Meaning} → ExplicitNode t h i j x → Ascend t i x.comments j
  unfolding noting empty_node
  explicit_ascends (marked_node e n) = ascend_after (omega arith) (derived_ascends n.derived)
  explicit_ascends (marked_nothing e d) = ascend_after (omega arith) (end_ascends d)

  document_ascends : {h i j : ℕ} {d : Document} {x : List CommentValue} → AnyDocument t h i j d x → Ascend t i x j
  document_ascends (bare_document n c) = derived_ascends n.derived
  document_ascends (explicit_document e) = explicit_ascends e
  document_ascends (directive_document d e) = ascend_join (directives_ascend d) (explicit_ascends e)

  rest_ascends : {h i : ℕ} {x : Documents} → StreamRest t h i x → Ascend t i x.comments (length t)
  unfolding with_comments with_document
  rest_ascends stream_ended = no_more (omega arith)
  rest_ascends (past_prefix s r) = ascend_join (part_ascends s) (rest_ascends r)
  rest_ascends (past_suffixes s p r) = ascend_join (ascend_join (suffixes_ascend s) (parts_ascend p)) (rest_ascends r)
  rest_ascends (past_suffixes_and_document s p d r) = ascend_join (ascend_join (suffixes_ascend s) (ascend_join (parts_ascend p) (document_ascends d))) (rest_ascends r)
  rest_ascends (past_explicit e r) = ascend_join (explicit_ascends e) (rest_ascends r)

  pub stream_ascends : {h : ℕ} {x : Documents} → Stream t h x → Ascend t 0 x.comments (length t)
  unfolding with_comments with_document
  stream_ascends (begins_with_document p d r) = ascend_join (ascend_join (parts_ascend p) (document_ascends d)) (rest_ascends r)
  stream_ascends (without_document p r) = ascend_join (parts_ascend p) (rest_ascends r)

  noted_ascend : {es : List EventInText} {i j : ℕ} {x y : List CommentValue} → NotedComments t es x y → Ascend t i x j → Ascend t i y j
  noted_ascend no_comment a = a
  noted_ascend {es = es} {i = i} {j = j} (one_comment {c = c} n r) (one_more m s a) = one_more m s (noted_ascend {i = c.offset + 1} r a)

-- the comments of a reading
pub reading_ascends : {t : List ℕ} {r : Lists} → ReadingOf t r → Ascend t 0 r.comments (length t)
reading_ascends a = noted_ascend a.comments (stream_ascends a.reads.shapes.derived)

-- in terms of indices: a comment between two offsets of a text, with its sign
pub record CommentAt (t : List ℕ) (i k : ℕ) (c : CommentValue) : Type 0 where
  pub from : i ≤ c.offset
  pub before : c.offset < k
  pub sign : code t c.offset ≡ 35

pub comment_at : {t : List ℕ} {i k : ℕ} (cs : List CommentValue) (j : ℕ) (d : CommentValue) → Ascend t i cs k → j < length cs → CommentAt t i k (slice_index_or cs j d)
comment_at [] j d a l = absurd (omega arith)
comment_at (c ∷ cs) zero d (one_more m s a) l = let f = ascend_order a in record { from = m; before = omega arith; sign = s.sign }
comment_at {i = i} {k = k} (c ∷ cs) (suc j) d (one_more m s a) l =
    let r = comment_at {i = c.offset + 1} cs j d a (omega arith) in record { from = omega (arith, r.from); before = r.before; sign = r.sign }

pub ascend_strictly : {t : List ℕ} {k l : ℕ} (cs : List CommentValue) → Ascend t k cs l → (i j : ℕ) (d : CommentValue) → i < j
    → j < length cs → (slice_index_or cs i d).offset < (slice_index_or cs j d).offset
ascend_strictly [] a i j d lt in_list = absurd (omega arith)
ascend_strictly (c ∷ cs) (one_more m s a) zero zero d lt in_list = absurd (omega arith)
ascend_strictly (c ∷ cs) (one_more m s a) zero (suc j) d lt in_list = let r = (comment_at cs j d a (omega arith)).from in omega arith
ascend_strictly (c ∷ cs) (one_more m s a) (suc i) zero d lt in_list = absurd (omega arith)
ascend_strictly (c ∷ cs) (one_more m s a) (suc i) (suc j) d lt in_list =
    ascend_strictly {k = c.offset + 1} cs a i j d (omega arith) (omega arith)

ascend_in_order : {t : List ℕ} {k l : ℕ} (cs : List CommentValue) → Ascend t k cs l → (i j : ℕ) (d : CommentValue) → i ≤ j
    → j < length cs → (slice_index_or cs i d).offset ≤ (slice_index_or cs j d).offset
ascend_in_order cs a i j d le lt = ⊎_elim
    (λ (e : i < j). let r = ascend_strictly cs a i j d e lt in omega arith)
    (λ (e : j ≤ i). let same : i ≡ j = omega arith in subst (λ k. (slice_index_or cs i d).offset ≤ (slice_index_or cs k d).offset) same (omega arith))
    (cases_lt i j)

pub comments_in_order : {t : List ℕ} {r : Lists} → ReadingOf t r → IsNonDecreasingBy (λ (c : CommentValue). c.offset) r.comments
comments_in_order {r = r} a = ascend_in_order r.comments (reading_ascends a)

pub comments_at : {t : List ℕ} {r : Lists} → ReadingOf t r → (k : ℕ) (d : CommentValue) → k < length r.comments → CommentAt t 0 (length t) (slice_index_or r.comments k d)
comments_at {r = r} a k d l = comment_at r.comments k d (reading_ascends a) l
