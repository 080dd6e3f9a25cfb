-- Some of the facts about the readings of texts, besides those on which their normal forms depend: the order of
-- offsets, and that the styles of scalars can spell their texts.
use Rattle.std.specs.Prelude.{◌≡◌, ◌<◌, ◌≤◌, ℕ, List, [], ◌∷◌, ◌++◌, length, map, true, Option, Some, None}
use Rattle.std.specs.List.{All}
use Rattle.std.specs.List.Sorted.{IsNonDecreasingBy}
use Rattle.yf_comments.specs.Comment.{CommentValue}
use Rattle.yf_events.specs.Event.{EventInText}
use Rattle.yf_events.specs.Tree.{Node, scalar, alias, sequence, mapping, Items, no_items, item, Pairs, no_pairs, pair, DocumentTree, standing, entry_start}
use Rattle.yf_events.specs.WellPlaced.{begins_node}
use Rattle.yf_events.specs.declared.document.Doc.{Doc}
use Rattle.yf_events.specs.declared.event.Span.{Span}
use Rattle.yf_events.specs.declared.lists.Lists.{Lists}
use Rattle.yf_grammar.specs.Productions.SpellableTexts.{IsSpelled}
use Rattle.yf_print.specs.Layouts.Rows.{colon_offset}
use Rattle.yf_forms.specs.NormalForms.Textual.{IsTextual}

-- Offsets in order: for each node its start, what is in it, and its end; for each entry its start, and its `:` between
-- the key and the value; for each document its directives and its start.

abbrev pub around : Option Span → List ℕ → List ℕ
around None inner = inner
around (Some span) inner = span.start ∷ (inner ++ (span.end ∷ []))

abbrev mutual
  pub marks_in : Node → List ℕ
  marks_in (scalar at props style text lines) = around at.span []
  marks_in (alias at name) = around at.span []
  marks_in (sequence at flow props items) = around at.span (marks_in_items items)
  marks_in (mapping at flow props pairs) = around at.span (marks_in_pairs pairs)

  pub marks_in_items : Items → List ℕ
  marks_in_items no_items = []
  marks_in_items (item x xs) = entry_start x ++ (marks_in x ++ marks_in_items xs)

  pub marks_in_pairs : Pairs → List ℕ
  marks_in_pairs no_pairs = []
  marks_in_pairs (pair k v ps) = entry_start k ++ (marks_in k ++ (colon_offset (standing k).entry ++ (marks_in v ++ marks_in_pairs ps)))

abbrev pub marks_in_documents : List Doc → List DocumentTree → List ℕ
marks_in_documents [] trees = []
marks_in_documents (d ∷ ds) [] = []
marks_in_documents (d ∷ ds) (tree ∷ trees) =
    map (λ w. w.offset) d.directives ++ (d.start ∷ (marks_in tree.root ++ marks_in_documents ds trees))

-- the conditions of the proofs on a reading r of the text t; readings of texts satisfy more, for example strict order
-- and spellings within flow collections
pub record OfText (t : List ℕ) (r : Lists) : Type 0 where
  pub textual : IsTextual r
  pub order : IsNonDecreasingBy (λ (n : ℕ). n) (marks_in_documents r.documents textual.trees)
  pub within : All (λ (n : ℕ). n ≤ length t) (marks_in_documents r.documents textual.trees)
  pub comments : All (λ (c : CommentValue). c.offset < length t) r.comments
  pub spelled : All (λ (e : EventInText). begins_node e.event ≡ true → IsSpelled e.event e.folded) r.events
