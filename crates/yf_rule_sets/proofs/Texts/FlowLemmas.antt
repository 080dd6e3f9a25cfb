-- Laws of the pass that finds the events in flow collections.
use Rattle.std.proofs.Common.{◌≡◌, ℕ, ◌+◌, ◌<◌, ◌≤◌, ◌⊎◌, Bool, true, false, List, Option, Some, None, length, get_or, map, refl, sym, ap, subst, ◌∙◌, inl, inr, ⊎_elim, arith, true≢false}
use Rattle.std.specs.Prelude.{option_map, slice_get}
use Rattle.std.proofs.lemmas.Bool.{cases_lt}
use Rattle.std.proofs.lemmas.List.{length-map}
use Rattle.std.proofs.lemmas.Option.{get_or_from_slice_get, same_Some, slice_get-map, slice_get_cases}
use Rattle.yf_forms.specs.Nodes.SingleNodes.{NodeAt}
use Rattle.yf_forms.specs.Nodes.FlowsAlone as FlowsAlone
use Rattle.yf_forms.specs.Nodes.FlowsAlone.{flows_alone}
use Rattle.yf_forms.specs.NormalForms.Measures.{AreMeasures, measure_of, no_measure}
use Rattle.yf_forms.proofs.Measure.FlowParts.{flow_at}
use Rattle.yf_forms.specs.NormalForms.Normal.{LayoutSetting}
use Rattle.yf_forms.specs.declared.form.measure.Measure.{Measure}
use Rattle.yf_forms.proofs.Decide.AmongLemmas.{Among, first_at}
use Rattle.yf_forms.proofs.Decide.ValueLemmas.{event_of}
use Rattle.yf_events.specs.Event.{EventValue, EventInText, stream_starts, stream_ends, document_starts, document_ends, sequence_starts, sequence_ends, mapping_starts, mapping_ends, scalar_node, alias_node}
use Rattle.yf_events.specs.Reading.{events_of}
use Rattle.yf_events.specs.Tree.{Node, scalar, alias, sequence, mapping, DocumentTree, TreesOf, flat, standing}
use Rattle.yf_events.specs.WellPlaced.{begins_node}
use Rattle.yf_events.specs.declared.lists.Lists.{Lists}
use Rattle.yf_rule_sets.specs.Passes.OuterFlow.{FlowsDone, IsOutsideFlow, is_flow, starts_flow}
use Rattle.yf_rule_sets.proofs.Texts.NodeLemmas.{begins_at, ends_within, none_first, same_node}
use Rattle.yf_forms.proofs.Texts.OneLineRuns.{flat_filled}

-- the first event of a node

pub event_there : {es : List EventInText} {i : ℕ} {x : Node} → NodeAt es i x → slice_get (map (λ e. e.event) es) i ≡ Some (event_of x)
event_there {es} {i} {x} n = by x (record { before = n.before; after = n.after; is = n.is; index = n.index }) where
  by : (x : Node) → Among es (flat x) i → slice_get (map (λ e. e.event) es) i ≡ Some (event_of x)
  by (scalar at props style text lines) a = first_at (λ e. e.event) _ _ a
  by (alias at name) a = first_at (λ e. e.event) _ _ a
  by (sequence at flow props items) a = first_at (λ e. e.event) _ _ a
  by (mapping at flow props pairs) a = first_at (λ e. e.event) _ _ a

pub span_there : {es : List EventInText} {i : ℕ} {x : Node} → NodeAt es i x → slice_get (map (λ e. e.span) es) i ≡ Some (standing x).span
span_there {es} {i} {x} n = by x (record { before = n.before; after = n.after; is = n.is; index = n.index }) where
  by : (x : Node) → Among es (flat x) i → slice_get (map (λ e. e.span) es) i ≡ Some (standing x).span
  by (scalar at props style text lines) a = first_at (λ e. e.span) _ _ a
  by (alias at name) a = first_at (λ e. e.span) _ _ a
  by (sequence at flow props items) a = first_at (λ e. e.span) _ _ a
  by (mapping at flow props pairs) a = first_at (λ e. e.span) _ _ a

pub flow_event : (x : Node) → starts_flow (event_of x) ≡ is_flow x
flow_event (scalar at props style text lines) = refl
flow_event (alias at name) = refl
flow_event (sequence at flow props items) = refl
flow_event (mapping at flow props pairs) = refl

flow_begins : (e : EventValue) → starts_flow e ≡ true → begins_node e ≡ true
flow_begins stream_starts h = absurd (true≢false (sym h))
flow_begins stream_ends h = absurd (true≢false (sym h))
flow_begins (document_starts marked) h = absurd (true≢false (sym h))
flow_begins (document_ends closed) h = absurd (true≢false (sym h))
flow_begins (sequence_starts flow props) h = refl
flow_begins sequence_ends h = absurd (true≢false (sym h))
flow_begins (mapping_starts flow props) h = refl
flow_begins mapping_ends h = absurd (true≢false (sym h))
flow_begins (scalar_node props style text) h = absurd (true≢false (sym h))
flow_begins (alias_node name) h = absurd (true≢false (sym h))

-- an event of a list of events in a text
pub placed_at : (es : List EventInText) (i : ℕ) (v : EventValue) → slice_get (map (λ e. e.event) es) i ≡ Some v → (e : EventInText) × (slice_get es i ≡ Some e) × (e.event ≡ v)
placed_at es i v q = by (slice_get es i) (sym (slice_get-map (λ (e : EventInText). e.event) es i) ∙ q) refl where
  by : (o : Option EventInText) → option_map (λ (e : EventInText). e.event) o ≡ Some v → slice_get es i ≡ o → (e : EventInText) × (slice_get es i ≡ Some e) × (e.event ≡ v)
  by None h s = absurd cc
  by (Some e) h s = (e, s, same_Some _ _ h)

-- an event that begins a flow collection, and a node that begins with such an event
pub flow_begun : (r : Lists) (trees : List DocumentTree) (i : ℕ) (e : EventValue) → TreesOf r trees → slice_get (events_of r) i ≡ Some e → starts_flow e ≡ true
    → (x : Node) × NodeAt r.events i x × (is_flow x ≡ true)
flow_begun r trees i e t q h =
    let p = placed_at r.events i e q in
    let n = begins_at r trees i p.0 t p.1 (ap begins_node p.2 ∙ flow_begins e h) in
    (n.0, n.1, sym (flow_event n.0) ∙ ap starts_flow (same_Some _ _ (sym (event_there n.1) ∙ q)) ∙ h)

pub no_flow_begun : (es : List EventInText) (i : ℕ) (e : EventValue) → slice_get (map (λ d. d.event) es) i ≡ Some e → starts_flow e ≡ false → (x : Node) → NodeAt es i x
    → is_flow x ≡ true → ⊥
no_flow_begun es i e q h x n f = true≢false (sym f ∙ sym (flow_event x) ∙ ap starts_flow (same_Some _ _ (sym (event_there n) ∙ q)) ∙ h)

-- one more event

pub is_outside : {es : List EventInText} {i done : ℕ} → FlowsDone es i done → done < i → IsOutsideFlow es i
is_outside d l = record { outside = λ j y n f h. ⊎_elim (λ p. p) (λ p. omega (arith, p, l)) (d.bound j y n f h) }

pub is_inside : {es : List EventInText} {i done : ℕ} → FlowsDone es i done → 0 < i → i ≤ done → IsOutsideFlow es i → ⊥
is_inside {es} {i} {done} d z l o = ⊎_elim (λ (e : done ≡ 0). omega (arith, e, z, l))
    (λ (w : (j : ℕ) × (y : Node) × NodeAt es j y × (is_flow y ≡ true) × (j < i) × (done + 1 ≡ j + length (flat y))).
    let b = o.outside w.0 w.1 w.2 w.3 w.4 in omega (arith, b, w.5, l))
    d.reached

later : {es : List EventInText} {i done : ℕ} → (done ≡ 0) ⊎ ((j : ℕ) × (y : Node) × NodeAt es j y × (is_flow y ≡ true) × (j < i) × (done + 1 ≡ j + length (flat y)))
    → (done ≡ 0) ⊎ ((j : ℕ) × (y : Node) × NodeAt es j y × (is_flow y ≡ true) × (j < i + 1) × (done + 1 ≡ j + length (flat y)))
later (inl e) = inl e
later (inr w) = inr (w.0, w.1, w.2, w.3, omega (arith, w.4), w.5)

pub flow_passed : {es : List EventInText} {i done : ℕ} (x : Node) (next : ℕ) → FlowsDone es i done → done < i → NodeAt es i x → is_flow x ≡ true → next + 1 ≡ i + length (flat x)
    → FlowsDone es (i + 1) next
flow_passed {es} {i} {done} x next d l n f e = record {
  bound = λ j y m g h. ⊎_elim
      (λ (k : j < i). let b = (is_outside d l).outside j y m g k in inl (omega (arith, b)))
      (λ (k : i ≤ j).
      let q : j ≡ i = omega (arith, k, h) in
      let s : length (flat y) ≡ length (flat x) = ap (λ z. length (flat z)) (same_node (subst (λ a. NodeAt es a y) q m) n) in
      inr (omega (arith, e, q, s)))
      (cases_lt j i);
  reached = inr (i, x, n, f, omega arith, e);
}

pub other_passed : {es : List EventInText} {i done : ℕ} → FlowsDone es i done → done < i → ((x : Node) → NodeAt es i x → is_flow x ≡ true → ⊥) → FlowsDone es (i + 1) done
other_passed {es} {i} {done} d l none = record {
  bound = λ j y m g h. ⊎_elim
      (λ (k : j < i). let b = (is_outside d l).outside j y m g k in inl (omega (arith, b)))
      (λ (k : i ≤ j). absurd (none y (subst (λ a. NodeAt es a y) (let q : j ≡ i = omega (arith, k, h) in q) m) g))
      (cases_lt j i);
  reached = later d.reached;
}

pub inner_passed : (r : Lists) (trees : List DocumentTree) (i done : ℕ) → TreesOf r trees → FlowsDone r.events i done → i ≤ done → FlowsDone r.events (i + 1) done
inner_passed r trees i done t d l = record {
  bound = λ j y m g h. ⊎_elim
      (λ (k : j < i). ⊎_elim (λ p. inl (omega (arith, p))) (λ p. inr p) (d.bound j y m g k))
      (λ (k : i ≤ j). inr (within j y m (let q : j ≡ i = omega (arith, k, h) in q) d.reached))
      (cases_lt j i);
  reached = later d.reached;
} where
  within : (j : ℕ) (y : Node) → NodeAt r.events j y → j ≡ i
      → (done ≡ 0) ⊎ ((k : ℕ) × (z : Node) × NodeAt r.events k z × (is_flow z ≡ true) × (k < i) × (done + 1 ≡ k + length (flat z))) → j + length (flat y) ≤ done + 1
  within j y m q (inl e) = absurd (none_first r trees y t (subst (λ a. NodeAt r.events a y) (let z : j ≡ 0 = omega (arith, q, e, l) in z) m))
  within j y m q (inr w) =
      let b = ends_within w.2 m (omega (arith, q, w.4)) (omega (arith, q, l, w.5)) in
      omega (arith, b, w.5)

-- with measures

pub measure_there : {t : List ℕ} {c : LayoutSetting} {es : List EventInText} {ms : List Measure} {i : ℕ} {x : Node} (m : Measure) → AreMeasures t c es ms → NodeAt es i x
    → m ≡ get_or ms i no_measure → m ≡ measure_of t c i x
measure_there {t} {c} {es} {ms} {i} {x} m d n e = e ∙ get_or_from_slice_get ms i (measure_of t c i x) no_measure (d.each i x n)

pub last_there : {t : List ℕ} {c : LayoutSetting} {es : List EventInText} {ms : List Measure} {i : ℕ} {x : Node} (m : Measure) → AreMeasures t c es ms → NodeAt es i x
    → m ≡ get_or ms i no_measure → m.last + 1 ≡ i + length (flat x)
last_there {i = i} {x = x} m d n e =
    let s = flat_filled x in
    let q = ap (λ w. w.last) (measure_there m d n e) in
    omega (arith, s, q)

-- with measures only of flow collections

pub same_flow : (x : Node) → is_flow x ≡ true → FlowsAlone.is_flow x ≡ true
same_flow (scalar at props style text lines) f = f
same_flow (alias at name) f = f
same_flow (sequence at flow props items) f = f
same_flow (mapping at flow props pairs) f = f

pub last_alone : {t : List ℕ} {c : LayoutSetting} {es : List EventInText} {ms : List Measure} {i : ℕ} {x : Node} (m : Measure) → AreMeasures t c (flows_alone 0 es) ms
    → NodeAt es i x → is_flow x ≡ true → m ≡ get_or ms i no_measure → m.last + 1 ≡ i + length (flat x)
last_alone {x = x} m d n f e = last_there m d (flow_at n (same_flow x f)) e

-- the step of the code

pub item_at : {X : Type 0} (xs : List X) (i : ℕ) → i < length xs → (x : X) × (slice_get xs i ≡ Some x)
item_at {X} xs i l = ⊎_elim
    (λ (w : (x : X) × (i < length xs) × (slice_get xs i ≡ Some x) × (get_or xs i x ≡ x)). (w.0, w.2))
    (λ (w : (length xs ≤ i) × (slice_get xs i ≡ None)). absurd (omega (arith, w.0, l)))
    (slice_get_cases xs i).1

event_at : (r : Lists) (i : ℕ) → i < length r.events → (e : EventValue) × (slice_get (events_of r) i ≡ Some e)
event_at r i l = item_at (events_of r) i (omega (arith, l, length-map r.events (λ e. e.event)))

pub flow_done : (r : Lists) (trees : List DocumentTree) (i done : ℕ) (starts : Bool) (m : Measure) {t : List ℕ} {c : LayoutSetting} {ms : List Measure} → i < length r.events
    → TreesOf r trees → AreMeasures t c r.events ms → FlowsDone r.events i done → done < i → ((e : EventValue) → slice_get (events_of r) i ≡ Some e → starts ≡ starts_flow e)
    → starts ≡ true → m ≡ get_or ms i no_measure → FlowsDone r.events (i + 1) m.last
flow_done r trees i done starts m l t ms d h f s q =
    let e = event_at r i l in
    let b = flow_begun r trees i e.0 t e.1 (sym (f e.0 e.1) ∙ s) in
    flow_passed b.0 m.last d h b.1 b.2 (last_there m ms b.1 q)

pub alone_done : (r : Lists) (trees : List DocumentTree) (i done : ℕ) (starts : Bool) (m : Measure) {t : List ℕ} {c : LayoutSetting} {ms : List Measure} → i < length r.events
    → TreesOf r trees → AreMeasures t c (flows_alone 0 r.events) ms → FlowsDone r.events i done → done < i
    → ((e : EventValue) → slice_get (events_of r) i ≡ Some e → starts ≡ starts_flow e) → starts ≡ true → m ≡ get_or ms i no_measure → FlowsDone r.events (i + 1) m.last
alone_done r trees i done starts m l t ms d h f s q =
    let e = event_at r i l in
    let b = flow_begun r trees i e.0 t e.1 (sym (f e.0 e.1) ∙ s) in
    flow_passed b.0 m.last d h b.1 b.2 (last_alone m ms b.1 b.2 q)

pub no_flow_done : (r : Lists) (i done : ℕ) (starts : Bool) → i < length r.events → FlowsDone r.events i done → done < i
    → ((e : EventValue) → slice_get (events_of r) i ≡ Some e → starts ≡ starts_flow e) → starts ≡ false → FlowsDone r.events (i + 1) done
no_flow_done r i done starts l d h f s =
    let e = event_at r i l in
    other_passed d h (no_flow_begun r.events i e.0 e.1 (sym (f e.0 e.1) ∙ s))
