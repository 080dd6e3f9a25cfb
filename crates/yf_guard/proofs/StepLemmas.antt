-- One step of the pass.
use Rattle.std.proofs.Common.{◌≡◌, ℕ, ◌+◌, ◌<◌, ◌≤◌, List, [], ◌∷◌, ◌++◌, Option, Some, None, length, drop, get_or, add-one, refl, sym, subst, ap, ◌∙◌, ⊎_elim, arith, reverse}
use Rattle.std.specs.Prelude.{option_map, slice_get, map}
use Rattle.std.proofs.Math.Seq.{drop-cons}
use Rattle.std.proofs.lemmas.List.{drop_all, reverse-append}
use Rattle.std.proofs.lemmas.Option.{same_Some, slice_get_cases, slice_get_within, slice_get-map, get_or_from_slice_get}
use Rattle.yf_events.specs.Event.{EventInText, EventValue}
use Rattle.yf_events.specs.Reading.{events_of, spans_of}
use Rattle.yf_events.specs.Tree.{DocumentTree, TreesOf}
use Rattle.yf_events.specs.declared.event.Span.{Span}
use Rattle.yf_events.specs.declared.lists.Lists.{Lists}
use Rattle.yf_guard.specs.Collections.{after}
use Rattle.yf_guard.specs.Guards.{first_guarded, least_from}
use Rattle.yf_guard.specs.Pass.{found_by, next, run}
use Rattle.yf_guard.specs.declared.guarded.Guarded.{Guarded}
use Rattle.yf_guard.specs.declared.open_collection.OpenCollection.{OpenCollection}
use Rattle.yf_guard.proofs.LeastLemmas.{least_append}
use Rattle.yf_guard.proofs.TreeRuns.{run_stream}

-- the event at an index with a known value, and its span
pub event_is : (r : Lists) (i : ℕ) (e : EventInText) (v : EventValue) → slice_get (events_of r) i ≡ Some v → slice_get r.events i ≡ Some e → e.event ≡ v
event_is r i e v h g =
    same_Some _ _ (sym (slice_get-map (λ (x : EventInText). x.event) r.events i ∙ ap (option_map (λ (x : EventInText). x.event)) g) ∙ h)

pub span_is : (r : Lists) (i : ℕ) (e : EventInText) (s : Option Span) → slice_get (spans_of r) i ≡ Some s → slice_get r.events i ≡ Some e → e.span ≡ s
span_is r i e s h g =
    same_Some _ _ (sym (slice_get-map (λ (x : EventInText). x.span) r.events i ∙ ap (option_map (λ (x : EventInText). x.span)) g) ∙ h)

-- the event at an index
pub event_at : (r : Lists) (i : ℕ) → i < length r.events → (x : EventInText) × (slice_get r.events i ≡ Some x)
event_at r i h = ⊎_elim
    (λ (w : (x : EventInText) × (i < length r.events) × (slice_get r.events i ≡ Some x) × (get_or r.events i x ≡ x)). (w.0, w.2))
    (λ (w : (length r.events ≤ i) × (slice_get r.events i ≡ None)). absurd (omega (arith, w.0, h)))
    (slice_get_cases r.events i).1

pub first_event : (es : List EventInText) (i : ℕ) (x : EventInText) → slice_get es i ≡ Some x → drop i es ≡ x ∷ drop (i + 1) es
first_event es i x e =
    subst (λ k. drop i es ≡ get_or es i x ∷ drop k es) (sym (add-one i)) (drop-cons es i x (slice_get_within es i x e)) ∙ ap (λ m. m ∷ drop (i + 1) es) (get_or_from_slice_get es i x x e)

pub pass_step : (t : List ℕ) (r : Lists) (i : ℕ) (x : EventInText) (v : EventValue) (s : Option Span) → slice_get r.events i ≡ Some x
    → slice_get (events_of r) i ≡ Some v → slice_get (spans_of r) i ≡ Some s
    → (st after : List OpenCollection) (found new all : Option Guarded) → least_from found (run t st (drop i r.events)) ≡ all
    → after ≡ next v s st → new ≡ least_from found (found_by t v s st) → least_from new (run t after (drop (i + 1) r.events)) ≡ all
pass_step t r i x v s e ev sp st after found new all inv p q =
    let es = r.events in
    let d = first_event es i x e in
    let f = event_is r i x v ev e in
    let g = span_is r i x s sp e in
    let rest = drop (i + 1) es in
    ap (λ y. least_from new (run t y rest)) p ∙ ap (λ y. least_from y (run t (next v s st) rest)) q
    ∙ sym (least_append (found_by t v s st) (run t (next v s st) rest) found)
    ∙ ap (λ w. least_from found (found_by t w s st ++ run t (next w s st) rest)) (sym f)
    ∙ ap (λ w. least_from found (found_by t x.event w st ++ run t (next x.event w st) rest)) (sym g)
    ∙ ap (λ ys. least_from found (run t st ys)) (sym d) ∙ inv

pub pass_done : (r : Lists) (t : List ℕ) (i : ℕ) (st : List OpenCollection) (found : Option Guarded) → length r.events ≤ i
    → least_from found (run t st (drop i r.events)) ≡ least_from None (run t [] r.events)
    → (trees : List DocumentTree) → TreesOf r trees → found ≡ first_guarded t trees
pass_done r t i st found h inv trees w =
    sym (ap (λ es. least_from found (run t st es)) (drop_all i r.events h)) ∙ inv ∙ ap (λ es. least_from None (run t [] es)) w.events ∙ ap (λ xs. least_from None xs) (run_stream trees t)

-- the innermost collection in the order of the stack
pub last_first : {A : Type 0} (xs rest : List A) (c : A) → xs ≡ rest ++ c ∷ [] → reverse xs ≡ c ∷ reverse rest
last_first xs rest c e = ap reverse e ∙ reverse-append rest (c ∷ [])
