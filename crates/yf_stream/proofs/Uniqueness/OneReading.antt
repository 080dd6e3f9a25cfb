-- A text has at most one reading: its one derivation determines the notes that `ReadingOf` adds.
use Rattle.std.proofs.Common.{◌≡◌, ℕ, Bool, List, [], ◌∷◌, ◌++◌, map, flat_map, length, Option, Some, None, ◌⊎◌, ⊎_elim, refl, sym, ap, ◌∙◌, subst}
use Rattle.std.proofs.lemmas.Option.{same_Some}
use Rattle.yf_chars.specs.Text.{code}
use Rattle.yf_chars.specs.Chain.{Chain}
use Rattle.yf_chars.specs.Chain.Chain.{done, step}
use Rattle.yf_chars.proofs.ChainLemmas.{chain_append, chain_meet, Meets}
use Rattle.yf_chars.proofs.ChainLemmas.Meets.{goes_on, falls_short}
use Rattle.yf_lines.specs.Basic.{ForbiddenLine, LineStart}
use Rattle.yf_lines.proofs.LineLemmas.{lines_unique}
use Rattle.yf_comments.specs.Comment.{CommentValue}
use Rattle.yf_comments.specs.Comments.{CommentLine, LineEnd, LineRest, Row}
use Rattle.yf_comments.specs.Comments.CommentLine.{comment_line, whites_line}
use Rattle.yf_comments.specs.Comments.LineRest.{comment, whites}
use Rattle.yf_comments.proofs.LineEndLemmas.{line_end_rows, rows_ended, rows_lines}
use Rattle.yf_comments.proofs.RowLemmas.{rest_unique, row_functional}
use Rattle.yf_props.specs.Handles.{Declaration, SuffixText, TagText}
use Rattle.yf_props.specs.Handles.SuffixText.{as_decoded, as_written}
use Rattle.yf_props.specs.Handles.TagText.{non_specific_text, shorthand_text, verbatim_text}
use Rattle.yf_props.specs.Props.{TagValue}
use Rattle.yf_events.specs.Event.{EventInText, document_ends, document_starts, stream_ends, stream_starts}
use Rattle.yf_events.specs.Tree.{TreesOf, leaves, unplaced}
use Rattle.yf_events.specs.declared.document.Doc.{Doc}
use Rattle.yf_events.specs.declared.lists.Lists.{Lists}
use Rattle.yf_events.proofs.TreeLemmas.{trees_unique}
use Rattle.yf_grammar.specs.Productions.ReadParts.{NotedSince, noted, not_noted, Noting}
use Rattle.yf_grammar.proofs.Ends.GapLemmas.{end_next}
use Rattle.yf_grammar.proofs.Ends.Parts.{noting_one}
use Rattle.yf_stream.specs.ReadingOf.{DocumentEvents, no_document, one_document, EventTags, no_event, tagged, untagged, NotedComments, no_comment, one_comment, ReadingOf, doc_of, leaf_lines}
use Rattle.yf_stream.specs.Stream.{Document, EndIsMarked, Prefixes}
use Rattle.yf_stream.specs.Stream.EndIsMarked.{marked_end, unmarked_end}
use Rattle.yf_stream.specs.Stream.PrefixPart.{order_mark, prefix_comment}
use Rattle.yf_stream.proofs.Uniqueness.OneDirective.{dot_still}
use Rattle.yf_stream.proofs.Uniqueness.StreamPath.{mark_still}
use Rattle.yf_chars.proofs.Tests.{none_some}

-- resolved tags
suffix_one : {s x y : List ℕ} → SuffixText s x → SuffixText s y → x ≡ y
suffix_one (as_decoded a) (as_decoded b) = refl
suffix_one (as_decoded a) (as_written n) = absurd (n a)
suffix_one (as_written n) (as_decoded b) = absurd (n b)
suffix_one (as_written n) (as_written m) = refl

the_value : {A : Type 0} → A → Option A → A
the_value d None = d
the_value d (Some x) = x

tag_text_one : {ds : List Declaration} {tag : TagValue} {x y : List ℕ} → TagText ds tag x → TagText ds tag y → x ≡ y
tag_text_one verbatim_text verbatim_text = refl
tag_text_one (shorthand_text {prefix = p} {x = x} e a) (shorthand_text {prefix = q} {x = y} f b) =
    let same = same_Some p q (sym e ∙ f) in
    ap (λ w. w ++ x) same ∙ ap (λ w. q ++ w) (suffix_one a b)
tag_text_one non_specific_text non_specific_text = refl

pub tags_one : {ds : List Declaration} {es : List EventInText} {x y : List (Option (List ℕ))} → EventTags ds es x → EventTags ds es y → x ≡ y
tags_one no_event no_event = refl
tags_one (untagged e r) (untagged f s) = ap (λ w. None ∷ w) (tags_one r s)
tags_one (untagged e r) (tagged f a s) = absurd (none_some (sym e ∙ f))
tags_one (tagged e a r) (untagged f s) = absurd (none_some (sym f ∙ e))
tags_one {ds} (tagged {tags = tags} {tag = v} {text = text} e a r) (tagged {tag = w} {text = other} f b s) =
    let same = same_Some w v (sym f ∙ e) in
    ap (λ z. Some z ∷ tags) (tag_text_one a (subst (λ z. TagText ds z other) same b)) ∙ ap (λ z. Some other ∷ z) (tags_one r s)

record Later (t : List ℕ) (k q : ℕ) : Type 0 where
  found : List CommentValue
  parts : Prefixes t k q found

-- whether the end of a document is marked: the start of the comment lines after it doesn't matter
module _ {t : List ℕ} where
  line_rest : {i j : ℕ} {x : List CommentValue} → CommentLine t i j x → LineRest t i j x
  line_rest (whites_line s e) = whites s e
  line_rest (comment_line s c e) = comment s c e

  later : {i k q : ℕ} {z cs : List CommentValue} → Chain (Row t) i k z → Prefixes t i q cs → code t q ≡ 46 → Later t k q
  later {cs = cs} done p e = record { found = cs; parts = p }
  later (step {h = h} {x = x} r c) done e = absurd ((dot_still e).none h x r)
  later (step {h = h} {x = x} r c) (step (order_mark m) p) e = absurd ((mark_still m).none h x r)
  later {q = q} (step r c) (step {y = y} (prefix_comment l) p) e =
      later c (subst (λ w. Prefixes t w q y) (sym (rest_unique r.rest (line_rest l)).0) p) e

  parts_of_lines : {i j : ℕ} {x : List CommentValue} → Chain (CommentLine t) i j x → Prefixes t i j x
  parts_of_lines done = done
  parts_of_lines (step s c) = step (prefix_comment s) (parts_of_lines c)

  parts_of_rows : {i j : ℕ} {x : List CommentValue} → LineStart t i ⊎ (i ≡ length t) → Chain (Row t) i j x → Prefixes t i j x
  parts_of_rows {i} {j} {x} l c = ⊎_elim (λ (s : LineStart t i). parts_of_lines (rows_lines s c))
      (λ (e : i ≡ length t).
      let r = rows_ended c e in
      subst (λ w. Prefixes t i j w) (sym r.1) (subst (λ w. Prefixes t i w []) r.0 (done {i = i})))
      l

  no_other_end : {i j k q : ℕ} {xs ys cs : List CommentValue} → LineEnd t i j xs → LineEnd t i k ys → Prefixes t j q cs → ForbiddenLine t q → code t q ≡ 46
      → ((p : ℕ) (ds : List CommentValue) → Prefixes t k p ds → ForbiddenLine t p → code t p ≡ 46 → ⊥) → ⊥
  no_other_end {j = j} {k} {q} {xs} {ys} {cs} a b p f c none = go (chain_meet row_functional (line_end_rows a) (line_end_rows b)) where
    go : Meets (Row t) j k xs ys → ⊥
    go (goes_on z r e) = let l = later r p c in none q l.found l.parts f c
    go (falls_short z r e) = none q (z ++ cs) (chain_append (parts_of_rows (end_next b) r) p) f c

  marked_one : {i j k : ℕ} {xs ys : List CommentValue} {a b : Bool} → LineEnd t i j xs → EndIsMarked t j a → LineEnd t i k ys → EndIsMarked t k b → a ≡ b
  marked_one d (marked_end p f c) e (marked_end q g h) = refl
  marked_one d (marked_end p f c) e (unmarked_end n) = absurd (no_other_end d e p f c n)
  marked_one d (unmarked_end n) e (marked_end q g h) = absurd (no_other_end e d q g h n)
  marked_one d (unmarked_end n) e (unmarked_end m) = refl

  -- the events of documents, with their tags
  events_one : {ds : List Document} {x y : List EventInText} {a b : List (Option (List ℕ))} → DocumentEvents t ds x a → DocumentEvents t ds y b → (x ≡ y) × (a ≡ b)
  events_one no_document no_document = (refl, refl)
  events_one (one_document {d = d} {x = x} {tags = tags} {more = more} {closed = u} g l m r) (one_document {x = y} {tags = other} {more = rest} {closed = v} h n o s) =
      let c = marked_one l m n o in
      let e = events_one r s in (
        ap (λ w. unplaced (document_starts d.marked) ∷ (d.events ++ (unplaced (document_ends w) ∷ x))) c
            ∙ ap (λ w. unplaced (document_starts d.marked) ∷ (d.events ++ (unplaced (document_ends v) ∷ w))) e.0,
        ap (λ w. None ∷ (w ++ (None ∷ more))) (tags_one g h) ∙ ap (λ w. None ∷ (other ++ (None ∷ w))) e.1,
      )

  -- notes on blank lines before comments
  since_one : {floor i : ℕ} {a b : Bool} → NotedSince t floor i a → NotedSince t floor i b → a ≡ b
  since_one (noted x) (noted y) = refl
  since_one (noted x) (not_noted n) = absurd (n x)
  since_one (not_noted n) (noted x) = absurd (n x)
  since_one (not_noted n) (not_noted m) = refl

  comments_one : {es : List EventInText} {cs x y : List CommentValue} → NotedComments t es cs x → NotedComments t es cs y → x ≡ y
  comments_one no_comment no_comment = refl
  comments_one (one_comment {c = c} {noted = x} n r) (one_comment {b = b} m s) =
      ap (λ w. record c { blank_before = w } ∷ x) (since_one n m) ∙ ap (λ w. record c { blank_before = b } ∷ w) (comments_one r s)

lists_one : (r s : Lists) → r.events ≡ s.events → r.resolved ≡ s.resolved → r.comments ≡ s.comments → r.on_leaf_line ≡ s.on_leaf_line → r.documents ≡ s.documents → r.escapes ≡ s.escapes → r ≡ s
lists_one r s a b c d e f =
    let put : List EventInText → List (Option (List ℕ)) → List CommentValue → List Bool → List Doc → List ℕ → Lists =
    λ u v w x y z. record { events = u; resolved = v; comments = w; on_leaf_line = x; documents = y; escapes = z } in
    ap (λ w. put w r.resolved r.comments r.on_leaf_line r.documents r.escapes) a
    ∙ ap (λ w. put s.events w r.comments r.on_leaf_line r.documents r.escapes) b
    ∙ ap (λ w. put s.events s.resolved w r.on_leaf_line r.documents r.escapes) c
    ∙ ap (λ w. put s.events s.resolved s.comments w r.documents r.escapes) d
    ∙ ap (λ w. put s.events s.resolved s.comments s.on_leaf_line w r.escapes) e
    ∙ ap (λ w. put s.events s.resolved s.comments s.on_leaf_line s.documents w) f

-- if both readings are of one derivation
reading_of_one : {t : List ℕ} {r s : Lists} (a : ReadingOf t r) (b : ReadingOf t s) → b.derived ≡ a.derived → r ≡ s
reading_of_one {t} {r} {s} a b d =
    let e = events_one a.events (subst (λ w. DocumentEvents t w.documents b.derived_events b.between) d b.events) in
    let events = noting_one (subst (λ w. Noting t 0 (unplaced stream_starts ∷ (w ++ (unplaced stream_ends ∷ []))) r.events) e.0 a.noted) b.noted in
    let documents = a.documents ∙ ap (λ w. map doc_of w.documents) (sym d) ∙ sym b.documents in
    let comments = comments_one a.comments
    (subst (λ w. NotedComments t w a.derived.comments s.comments) (sym events) (subst (λ w. NotedComments t s.events w.comments s.comments) d b.comments)) in
    let of_r : TreesOf r b.trees = record { events = events ∙ b.of_reading.events; documents = ap length documents ∙ b.of_reading.documents } in
    let trees = trees_unique r a.trees b.trees a.of_reading of_r in
    let lines = lines_unique t a.lines b.lines a.are_lines b.are_lines in
    lists_one r s events
    (a.resolved ∙ ap (λ w. None ∷ (w ++ (None ∷ []))) e.1 ∙ sym b.resolved)
    comments
    (a.notes ∙ ap (λ w. leaf_lines w (flat_map (λ d. leaves d.root) a.trees) r.comments) lines
    ∙ ap (λ w. leaf_lines b.lines (flat_map (λ d. leaves d.root) w) r.comments) trees
    ∙ ap (λ w. leaf_lines b.lines (flat_map (λ d. leaves d.root) b.trees) w) comments ∙ sym b.notes)
    documents
    (a.escapes ∙ ap (λ w. flat_map (λ d. d.escapes) w.documents) (sym d) ∙ sym b.escapes)

-- a text has at most one reading
pub one_reading : {t : List ℕ} {r s : Lists} → ReadingOf t r → ReadingOf t s → r ≡ s
one_reading a b =
    let x = a.reads.shapes in
    let y = b.reads.shapes in
    reading_of_one a b (x.only y.height b.derived y.derived y.within)
