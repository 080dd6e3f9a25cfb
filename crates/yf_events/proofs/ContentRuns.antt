-- Lists of items that grow as the pass goes over their sources.
use Rattle.std.proofs.Common.{ℕ, ◌+◌, ◌<◌, ◌≤◌, ◌≡◌, List, [], ◌∷◌, ◌++◌, Option, Some, length, map, drop, drop-cons, get_or, refl, sym, ap, ◌∙◌, append_assoc, add-one, arith}
use Rattle.std.specs.List.{flat_map, zip}
use Rattle.std.specs.Prelude.{slice_get}
use Rattle.std.proofs.lemmas.List.{length-map, map-append}
use Rattle.std.proofs.lemmas.Simd.{map-map}
use Rattle.std.specs.Borrow.{Bor}
use Rattle.yf_events.specs.declared.directive.Directive.{Directive}
use Rattle.yf_events.specs.declared.document.Doc.{Doc}
use Rattle.yf_events.specs.Content.{ContentValue, items_of_event, nodes_of, BeforeValue, a_directive, a_word, before_document, items_of_directive, items_of_document}
use Rattle.yf_events.specs.Event.{EventValue}
use Rattle.yf_events.specs.Reading.{events_of}
use Rattle.yf_events.specs.declared.lists.Lists.{Lists}
use Rattle.yf_events.proofs.PieceRuns.{zip_at, zip_past}

-- the view of a list that was pushed to
pub pushed : {A B : Type 0} (f : A → B) (before after : List A) (x : A) → after ≡ before ++ (x ∷ []) → map f after ≡ map f before ++ (f x ∷ [])
pushed f before after x is = ap (map f) is ∙ map-append f before (x ∷ [])

-- the items that the events from an index on add to the content
unfoldable pub nodes_from : Lists → ℕ → List ContentValue
nodes_from r i = flat_map (λ e. items_of_event e.0 e.1) (drop i (zip (events_of r) r.resolved))

pub nodes_at_start : (r : Lists) → nodes_from r 0 ≡ nodes_of r
unfolding nodes_from nodes_of
nodes_at_start r = refl

pub nodes_next : (r : Lists) (i : ℕ) (e : EventValue) (tag : Option (List ℕ)) → slice_get (events_of r) i ≡ Some e → slice_get r.resolved i ≡ Some tag
    → nodes_from r i ≡ items_of_event e tag ++ nodes_from r (i + 1)
unfolding nodes_from
nodes_next r i e tag p q =
    let cut : drop i (zip (events_of r) r.resolved) ≡ (e, tag) ∷ drop (i + 1) (zip (events_of r) r.resolved) = rw add-one (zip_at (events_of r) r.resolved i e tag p q) in
    ap (flat_map (λ e. items_of_event e.0 e.1)) cut

pub nodes_past : (r : Lists) (i : ℕ) → length r.events ≤ i → nodes_from r i ≡ []
unfolding nodes_from
nodes_past r i past =
    ap (flat_map (λ e. items_of_event e.0 e.1)) (zip_past (events_of r) r.resolved i (omega (arith, length-map r.events (λ e. e.event), past)))

-- the items that one event adds
pub event_added : (r : Lists) (i : ℕ) (e : EventValue) (tag : Option (List ℕ)) (x m n t : List ContentValue) → slice_get (events_of r) i ≡ Some e → slice_get r.resolved i ≡ Some tag
    → x ≡ items_of_event e tag → n ≡ m ++ x → m ++ nodes_from r i ≡ t → n ++ nodes_from r (i + 1) ≡ t
event_added r i e tag x m n t p q one more is =
    ap (λ w. w ++ nodes_from r (i + 1)) more ∙ append_assoc m x (nodes_from r (i + 1))
    ∙ ap (λ w. m ++ w) (sym (nodes_next r i e tag p q ∙ ap (λ w. w ++ nodes_from r (i + 1)) (sym one))) ∙ is

-- a directive's beginning, and then its words
pub directive_begins : (d : Directive) (words : List (Bor (List ℕ))) (m n : List BeforeValue) → map (λ word. word.now) words ≡ d.words
    → n ≡ m ++ (a_directive ∷ []) → n ++ map (λ word. a_word word.now) words ≡ m ++ items_of_directive d
directive_begins d words m n e more =
    ap (λ w. w ++ map (λ word. a_word word.now) words) more ∙ append_assoc m (a_directive ∷ []) (map (λ word. a_word word.now) words)
    ∙ ap (λ w. m ++ (a_directive ∷ w)) (sym (map-map (λ w. a_word w) (λ word. word.now) words) ∙ ap (map (λ w. a_word w)) e)

-- a document's beginning, and then its directives
pub document_begins : (d : Doc) (lent : List Directive) (m n : List BeforeValue) → lent ≡ d.directives → n ≡ m ++ (before_document ∷ [])
    → n ++ flat_map items_of_directive lent ≡ m ++ items_of_document d
document_begins d lent m n e more =
    ap (λ w. w ++ flat_map items_of_directive lent) more ∙ append_assoc m (before_document ∷ []) (flat_map items_of_directive lent)
    ∙ ap (λ w. m ++ (before_document ∷ flat_map items_of_directive w)) e

-- the rest is the items of the next source, and then those of the sources after it
pub one_added : {A B : Type 0} (f : A → List B) (xs : List A) (i : ℕ) (x : A) (m n t : List B) → i < length xs → x ≡ get_or xs i x → n ≡ m ++ f x
    → m ++ flat_map f (drop i xs) ≡ t → n ++ flat_map f (drop (i + 1) xs) ≡ t
one_added f xs i x m n t within at more is =
    let cut : drop i xs ≡ get_or xs i x ∷ drop (i + 1) xs = rw add-one (drop-cons xs i x within) in
    ap (λ w. w ++ flat_map f (drop (i + 1) xs)) more ∙ append_assoc m (f x) (flat_map f (drop (i + 1) xs))
    ∙ ap (λ w. m ++ flat_map f w) (ap (λ w. w ∷ drop (i + 1) xs) at ∙ sym cut) ∙ is
