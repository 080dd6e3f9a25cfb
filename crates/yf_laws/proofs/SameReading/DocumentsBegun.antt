-- The starts of the documents of a layout among its comments.
use Rattle.std.proofs.Common.{◌≡◌, ℕ, true, List, [], ◌∷◌, ◌++◌, map, sym, ap, ◌∙◌, subst, arith, false}
use Rattle.std.proofs.lemmas.List.{map-append}
use Rattle.yf_comments.specs.Comment.{CommentValue}
use Rattle.yf_events.specs.declared.directive.Directive.{Directive}
use Rattle.yf_events.specs.Tree.{Node}
use Rattle.yf_grammar.specs.Productions.Meaning.{Meaning}
use Rattle.yf_stream.specs.Stream.{Document, document_of, Documents, with_document, with_comments}
use Rattle.yf_stream.proofs.Offsets.ReadingOrder.{explicit_ascends}
use Rattle.yf_laws.proofs.SameReading.RowSteps.{begins_after, documents_begin, steps_with, begins_on}
use Rattle.yf_laws.specs.Layouts.RowComments.{carried_texts, comments_in}
use Rattle.yf_laws.specs.Layouts.Decorated.{Deco, first, after}
use Rattle.yf_forms.specs.NormalForms.Normal.{LayoutSetting}
use Rattle.yf_print.specs.Layouts.Rows.{Row, at_document_start}
use Rattle.yf_laws.proofs.Derived.LayoutSteps.{Step, a_comment, a_leaf, comment_steps}
use Rattle.yf_laws.proofs.Derived.DocumentsMade.{ExplicitMade}
use Rattle.yf_laws.proofs.SameReading.NoStarts.{NoStarts, quiet_steps}
use Rattle.yf_laws.proofs.Derived.StepsInText.{Stand, leaf_is_at, stand_join, comments_stand}

pub document_begun : {i j : ℕ} {cs : List CommentValue} {a : List Step} (s : ℕ) (dirs : List Directive) (m : Meaning) → Stand i (s ∷ []) cs a j → Stand i ((document_of s true dirs m).start ∷ []) cs a j
unfolding document_of
document_begun s dirs m a = a

abbrev pub starts_in : Documents → List ℕ
starts_in x = map (λ (d : Document). d.start) x.documents

pub comments_begun : {i k j : ℕ} {a b : List Step} (cs : List CommentValue) (x : Documents) → Stand i [] cs a k → Stand k (starts_in x) x.comments b j
    → Stand i (starts_in (with_comments cs x)) (with_comments cs x).comments (a ++ b) j
unfolding with_comments
comments_begun cs x c a = stand_join c a

pub documents_begun : {i k j : ℕ} {a b : List Step} (cs : List CommentValue) (d : Document) (x : Documents) → Stand i (d.start ∷ []) cs a k → Stand k (starts_in x) x.comments b j
    → Stand i (starts_in (with_document cs d x)) (with_document cs d x).comments (a ++ b) j
unfolding with_document
documents_begun cs d x c a = stand_join c a

pub explicit_begun : {t : List ℕ} {c : LayoutSetting} {x : Node} {rs : List Row} {q : ℕ} {r : List ℕ} (row : Row) (ds : List Deco) → row.begins ≡ false → row.ending ≡ at_document_start → NoStarts rs → (m : ExplicitMade t c x (row ∷ rs) ds q r)
    → Stand q (q ∷ []) m.meaning.comments (steps_with documents_begin (row ∷ rs) ds) m.place
explicit_begun {rs = rs} {q = q} row ds b e none m =
    let same : steps_with documents_begin (row ∷ rs) ds ≡ a_leaf ∷ comment_steps (comments_in (row ∷ rs) ds) =
    ap (λ w. begins_on w row.ending ++ (comment_steps (carried_texts (first ds)) ++ steps_with documents_begin rs (after ds))) b
    ∙ (ap (λ w. begins_after w ++ (comment_steps (carried_texts (first ds)) ++ steps_with documents_begin rs (after ds))) e
    ∙ ap (λ w. a_leaf ∷ w) (ap (λ w. comment_steps (carried_texts (first ds)) ++ w) (quiet_steps none (after ds))
    ∙ sym (map-append (λ (w : List ℕ). a_comment w) (carried_texts (first ds)) (comments_in rs (after ds))))) in
    subst (λ w. Stand q (q ∷ []) m.meaning.comments w m.place) (sym same) (leaf_is_at (omega arith) (comments_stand (explicit_ascends m.node) m.is))
