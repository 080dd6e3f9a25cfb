-- What the printer and the search for trailing comments use of measures: the end of a node, and its first leaf with
-- characters.
use Rattle.std.proofs.Common.{◌≡◌, ℕ, zero, suc, ◌+◌, Bool, true, false, List, [], ◌∷◌, map, length, get_or, None, refl, sym, ap, ◌∙◌}
use Rattle.std.specs.Prelude.{◌-◌, is_some}
use Rattle.std.proofs.lemmas.Option.{get_or_from_slice_get}
use Rattle.yf_events.specs.Event.{EventValue, EventInText, stream_starts, stream_ends, document_starts, document_ends, sequence_starts, sequence_ends, mapping_starts, mapping_ends, scalar_node, alias_node}
use Rattle.yf_events.specs.Tree.{Node, flat}
use Rattle.yf_props.specs.Props.{PropsValue}
use Rattle.yf_forms.specs.declared.form.decide.Form.{Form}
use Rattle.yf_forms.specs.declared.form.measure.Measure.{Measure}
use Rattle.yf_print.specs.declared.printer.FrameState.{FrameState}
use Rattle.yf_print.specs.declared.printer.FrameState.TheVariants.{Item, Key}
use Rattle.yf_print.specs.declared.printer.Role.{Role}
use Rattle.yf_forms.specs.Passes.DecidePass.{has_space, is_leaf_at}
use Rattle.yf_print.specs.Passes.Drafts.{Draft}
use Rattle.yf_forms.specs.Nodes.SingleNodes.{NodeAt}
use Rattle.yf_forms.specs.NormalForms.Measures.{AreMeasures, first_of, leaf_indices, measure_of, no_measure}
use Rattle.yf_forms.specs.NormalForms.Normal.{LayoutSetting}
use Rattle.yf_print.specs.Passes.PrintPass as Printing
use Rattle.yf_print.specs.Passes.PrintPass.{PrintState}
use Rattle.yf_print.specs.Passes.PrintWork.{Work}

-- the fields of a measure that are used
abbrev pub asked : Measure → Measure
asked m = record { last = m.last; width = None; can_be_kept = false; first_leaf = m.first_leaf; last_leaf = None }

-- for the measure of a node
abbrev pub asked_of : ℕ → Node → Measure
asked_of i x = record { last = i + length (flat x) - 1; width = None; can_be_kept = false; first_leaf = first_of (leaf_indices i x); last_leaf = None }

-- the list states this for each node
pub record MeasuresTell (es : List EventInText) (ms : List Measure) : Type 0 where
  pub each : (i : ℕ) (x : Node) → NodeAt es i x → asked (get_or ms i no_measure) ≡ asked_of i x

pub measured_tells : {t : List ℕ} {c : LayoutSetting} {es : List EventInText} {ms : List Measure} → AreMeasures t c es ms → MeasuresTell es ms
measured_tells {t} {c} {es} {ms} m = record {
  each = λ i x n. ap asked (get_or_from_slice_get ms i (measure_of t c i x) no_measure (m.each i x n));
}

asked_at : (ms : List Measure) (i : ℕ) → get_or (map asked ms) i no_measure ≡ asked (get_or ms i no_measure)
asked_at [] i = refl
asked_at (m ∷ ms) zero = refl
asked_at (m ∷ ms) (suc i) = asked_at ms i

-- another list with equal used fields has this property too
pub told_alike : {es : List EventInText} {ms ns : List Measure} → map asked ms ≡ map asked ns → MeasuresTell es ns → MeasuresTell es ms
told_alike {es} {ms} {ns} e told = record {
  each = λ i x n. sym (asked_at ms i) ∙ (ap (λ w. get_or w i no_measure) e ∙ (asked_at ns i ∙ told.each i x n));
}

-- The printer uses nothing else.

text_asks : (b : Bool) (g : Work) (i : ℕ) (m : Measure) (f : Form) (e : EventInText) (sp : Role) (d : Draft)
    → Printing.text_if b g i m f e sp d ≡ Printing.text_if b g i (asked m) f e sp d
text_asks true g i m f e sp d = refl
text_asks false g i m f e sp d = refl

leaf_asks : (g : Work) (i : ℕ) (m : Measure) (f : Form) (e : EventInText) (sp : Role) (d : Draft) → Printing.leaf g i m f e sp d ≡ Printing.leaf g i (asked m) f e sp d
leaf_asks g i m f e sp d = ap (λ w. Printing.colon_if sp (has_space e.event (is_leaf_at i m.first_leaf)) w) (text_asks (is_some m.first_leaf) g i m f e sp d)

leaf_at_asks : (g : Work) (i : ℕ) (m : Measure) (f : Form) (e : EventInText) (sp : Role) (w : PrintState)
    → Printing.leaf_at g i m f e sp w ≡ Printing.leaf_at g i (asked m) f e sp w
leaf_at_asks g i m f e sp w = ap (λ d. record w { draft = d; done = m.last }) (leaf_asks g i m f e sp w.draft)

collection_asks : (b : Bool) (g : Work) (i : ℕ) (m : Measure) (f : Form) (e : EventInText) (props : PropsValue) (first : FrameState) (sp : Role) (w : PrintState)
    → Printing.collection_if b g i m f e props first sp w ≡ Printing.collection_if b g i (asked m) f e props first sp w
collection_asks true g i m f e props first sp w = leaf_at_asks g i m f e sp w
collection_asks false g i m f e props first sp w = refl

node_asks : (g : Work) (i : ℕ) (m : Measure) (f : Form) (e : EventInText) (v : EventValue) (sp : Role) (w : PrintState)
    → Printing.node_in g i m f e v sp w ≡ Printing.node_in g i (asked m) f e v sp w
node_asks g i m f e (sequence_starts flow props) sp w = collection_asks (Printing.is_whole i m f) g i m f e props Item sp w
node_asks g i m f e (mapping_starts flow props) sp w = collection_asks (Printing.is_whole i m f) g i m f e props Key sp w
node_asks g i m f e (scalar_node props style text) sp w = leaf_at_asks g i m f e sp w
node_asks g i m f e (alias_node name) sp w = leaf_at_asks g i m f e sp w
node_asks g i m f e stream_starts sp w = leaf_at_asks g i m f e sp w
node_asks g i m f e stream_ends sp w = leaf_at_asks g i m f e sp w
node_asks g i m f e (document_starts b) sp w = leaf_at_asks g i m f e sp w
node_asks g i m f e (document_ends b) sp w = leaf_at_asks g i m f e sp w
node_asks g i m f e sequence_ends sp w = leaf_at_asks g i m f e sp w
node_asks g i m f e mapping_ends sp w = leaf_at_asks g i m f e sp w

event_asks : (g : Work) (i : ℕ) (m : Measure) (f : Form) (e : EventInText) (v : EventValue) (w : PrintState)
    → Printing.past_event g i m f e v w ≡ Printing.past_event g i (asked m) f e v w
event_asks g i m f e (scalar_node props style text) w = node_asks g i m f e e.event (Printing.role f w.levels) (Printing.signed g f e.entry w)
event_asks g i m f e (alias_node name) w = node_asks g i m f e e.event (Printing.role f w.levels) (Printing.signed g f e.entry w)
event_asks g i m f e (sequence_starts flow props) w = node_asks g i m f e e.event (Printing.role f w.levels) (Printing.signed g f e.entry w)
event_asks g i m f e (mapping_starts flow props) w = node_asks g i m f e e.event (Printing.role f w.levels) (Printing.signed g f e.entry w)
event_asks g i m f e sequence_ends w = refl
event_asks g i m f e mapping_ends w = refl
event_asks g i m f e (document_starts b) w = refl
event_asks g i m f e (document_ends b) w = refl
event_asks g i m f e stream_starts w = refl
event_asks g i m f e stream_ends w = refl

pub same_asked : (g : Work) (i : ℕ) (m n : Measure) (f : Form) (e : EventInText) (w : PrintState) → asked m ≡ asked n
    → Printing.past_event g i m f e e.event w ≡ Printing.past_event g i n f e e.event w
same_asked g i m n f e w q =
    event_asks g i m f e e.event w ∙ (ap (λ k. Printing.past_event g i k f e e.event w) q ∙ sym (event_asks g i n f e e.event w))
