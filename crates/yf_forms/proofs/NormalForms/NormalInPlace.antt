-- The normal form made in place: one event gets its form, and the rest stays.
use Rattle.std.proofs.Common.{◌≡◌, ℕ, zero, suc, ◌+◌, Bool, List, [], ◌∷◌, ◌++◌, Some, length, take, drop, get_or, map, add-one, refl, sym, ap, ◌∙◌, subst, arith, append_assoc}
use Rattle.std.specs.Prelude.{slice_get}
use Rattle.std.proofs.lemmas.Option.{slice_get_within, same_Some}
use Rattle.yf_props.specs.Props.{PropsValue}
use Rattle.yf_events.specs.Edit.{edited}
use Rattle.yf_events.specs.Event.{EventValue, EventInText, stream_starts, stream_ends, document_starts, document_ends, sequence_starts, sequence_ends, mapping_starts, mapping_ends, scalar_node, alias_node}
use Rattle.yf_events.specs.EventForms.{formed, is_folded, lines_if, with_form}
use Rattle.yf_events.proofs.PackedRows.{length-edited}
use Rattle.yf_events.specs.declared.event.ScalarStyle.{ScalarStyle}
use Rattle.yf_events.specs.declared.event.ScalarStyle.TheVariants.{Plain, Single, Double, Literal, Folded}
use Rattle.yf_events.specs.declared.lists.Lists.{Lists}
use Rattle.yf_forms.specs.declared.style.Style.{Style}
use Rattle.yf_forms.specs.declared.form.decide.Form.{Form}
use Rattle.yf_forms.specs.declared.form.measure.Measure.{Measure}
use Rattle.yf_forms.specs.NormalForms.Forms.{no_form}
use Rattle.yf_forms.specs.NormalForms.Measures.{no_measure}
use Rattle.yf_forms.specs.Passes.NormalEvents.{is_flow_at, kept_until, normal_from}
use Rattle.yf_forms.specs.NormalForms.Restyled.{IsRestyled, SameButStyles, lines_of, restyled, restyled_event}
use Rattle.yf_forms.specs.Nodes.ScalarStyles.{lines_in, wanted, wanted_of_event}
use Rattle.yf_forms.proofs.NormalForms.NormalLemmas.{pass_restyles}
use Rattle.yf_forms.proofs.NormalForms.NormalSteps.{pass_step}
use Rattle.yf_forms.proofs.NormalForms.RestyledLemmas.{restyled_whole}
use Rattle.yf_forms.proofs.ListLemmas.{drop_here}

lines_same : (style : ScalarStyle) (props : PropsValue) (text : List ℕ) (lines : List (List ℕ))
    → lines_if (is_folded (scalar_node props style text)) lines ≡ lines_in style lines
lines_same Plain props text lines = refl
lines_same Single props text lines = refl
lines_same Double props text lines = refl
lines_same Literal props text lines = refl
lines_same Folded props text lines = refl

event_same : (q : Style) (flow : Bool) (e : EventValue) → with_form flow (wanted_of_event e q) e ≡ restyled_event q flow e
event_same q flow stream_starts = refl
event_same q flow stream_ends = refl
event_same q flow (document_starts b) = refl
event_same q flow (document_ends b) = refl
event_same q flow (sequence_starts b props) = refl
event_same q flow sequence_ends = refl
event_same q flow (mapping_starts b props) = refl
event_same q flow mapping_ends = refl
event_same q flow (scalar_node props style text) = refl
event_same q flow (alias_node name) = refl

kept_same : (q : Style) (flow : Bool) (e : EventValue) (lines : List (List ℕ))
    → lines_if (is_folded (restyled_event q flow e)) lines ≡ lines_of (restyled_event q flow e) lines
kept_same q flow stream_starts lines = refl
kept_same q flow stream_ends lines = refl
kept_same q flow (document_starts b) lines = refl
kept_same q flow (document_ends b) lines = refl
kept_same q flow (sequence_starts b props) lines = refl
kept_same q flow sequence_ends lines = refl
kept_same q flow (mapping_starts b props) lines = refl
kept_same q flow mapping_ends lines = refl
kept_same q flow (scalar_node props style text) lines = lines_same (wanted style text q) props text lines
kept_same q flow (alias_node name) lines = refl

-- the event in its form is the event in its normal form
pub formed_restyled : (q : Style) (flow : Bool) (e : EventInText) → formed flow (wanted_of_event e.event q) e ≡ restyled q flow e
formed_restyled q flow e =
    ap (λ w. record e { event = w; folded = lines_if (is_folded w) e.folded }) (event_same q flow e.event)
    ∙ ap (λ w. record e { event = restyled_event q flow e.event; folded = w }) (kept_same q flow e.event e.folded)

drop_edited : (f : EventInText → EventInText) (es : List EventInText) (i : ℕ) → drop (suc i) (edited f i es) ≡ drop (suc i) es
drop_edited f [] i = refl
drop_edited f (e ∷ es) zero = refl
drop_edited f (e ∷ es) (suc i) = drop_edited f es i

take_edited : (f : EventInText → EventInText) (es : List EventInText) (i : ℕ) (x : EventInText) → slice_get es i ≡ Some x
    → take (suc i) (edited f i es) ≡ take i es ++ f x ∷ []
take_edited f [] i x e = absurd (omega (arith, slice_get_within [] i x e))
take_edited f (y ∷ es) zero x e = ap (λ w. f w ∷ []) (same_Some _ _ e)
take_edited f (y ∷ es) (suc i) x e = ap (λ w. y ∷ w) (take_edited f es i x e)

-- the event at an index with this value
record Found (es : List EventInText) (i : ℕ) (v : EventValue) : Type 0 where
  placed : EventInText
  at : slice_get es i ≡ Some placed
  is : placed.event ≡ v

found : (es : List EventInText) (i : ℕ) (v : EventValue) → slice_get (map (λ e. e.event) es) i ≡ Some v → Found es i v
found [] i v e = absurd (omega (arith, slice_get_within [] i v e))
found (x ∷ es) zero v e = record { placed = x; at = refl; is = same_Some _ _ e }
found (x ∷ es) (suc i) v e = let f = found es i v e in record { placed = f.placed; at = f.at; is = f.is }

-- one more event of a list that has the events before it in their normal form
pub step_in_place : (q : Style) (ms : List Measure) (fs : List Form) (es after all : List EventInText) (i u v : ℕ) (event : EventValue) (m : Measure) (g : Form)
    (b : Bool) (s : ScalarStyle) → slice_get (map (λ e. e.event) es) i ≡ Some event → m ≡ get_or ms i no_measure → g ≡ get_or fs i no_form
    → v ≡ kept_until u m g → ((q : Style) → restyled_event q b event ≡ restyled_event q (is_flow_at i v m) event) → s ≡ wanted_of_event event q → after ≡ edited (formed b s) i es
    → take i es ++ normal_from q ms i u (drop i fs) (drop i es) ≡ all
    → take (i + 1) after ++ normal_from q ms (i + 1) v (drop (i + 1) fs) (drop (i + 1) after) ≡ all
step_in_place q ms fs es after all i u v event m g b s at k n w c styles is before =
    let x = found es i event at in
    let next : i + 1 ≡ suc i = add-one i in
    ap (λ es. take (i + 1) es ++ normal_from q ms (i + 1) v (drop (i + 1) fs) (drop (i + 1) es)) is
    ∙ ap (λ w. w ++ normal_from q ms (i + 1) v (drop (i + 1) fs) (drop (i + 1) (edited (formed b s) i es)))
    (ap (λ n. take n (edited (formed b s) i es)) next ∙ take_edited (formed b s) es i x.placed x.at)
    ∙ ap (λ w. (take i es ++ formed b s x.placed ∷ []) ++ normal_from q ms (i + 1) v (drop (i + 1) fs) w)
    (ap (λ n. drop n (edited (formed b s) i es)) next ∙ drop_edited (formed b s) es i ∙ ap (λ n. drop n es) (sym next))
    ∙ pass_step q ms fs es i u v x.placed m g (is_flow_at i v m) (take i es) (formed b s x.placed) x.at k n w refl
    (ap (λ s. formed b s x.placed) (styles ∙ ap (λ e. wanted_of_event e q) (sym x.is)) ∙ formed_restyled q b x.placed
    ∙ ap (λ w. record x.placed { event = w; folded = lines_of w x.placed.folded })
    (ap (restyled_event q b) x.is ∙ c q ∙ ap (restyled_event q (is_flow_at i v m)) (sym x.is)))
    ∙ before

pub same_long : (f : EventInText → EventInText) (es after : List EventInText) (i : ℕ) → after ≡ edited f i es → length after ≡ length es
same_long f es after i is = ap length is ∙ length-edited f i es

-- the lists, with only the events changed
pub in_place : (q : Style) (ms : List Measure) (fs : List Form) (r before : Lists) (es : List EventInText) → before ≡ r → es ≡ normal_from q ms 0 0 fs before.events
    → IsRestyled q r (record before { events = es }) × (es ≡ normal_from q ms 0 0 fs r.events)
in_place q ms fs r before es same e =
    let now : es ≡ normal_from q ms 0 0 fs r.events = e ∙ ap (λ w. normal_from q ms 0 0 fs w.events) same in (
      restyled_whole r (record before { events = es }) (subst (λ w. SameButStyles q r.events w) (sym now) (pass_restyles q ms 0 0 fs r.events))
          (ap (λ w. w.resolved) same) (ap (λ w. w.comments) same) (ap (λ w. w.on_leaf_line) same) (ap (λ w. w.documents) same) (ap (λ w. w.escapes) same),
      now,
    )

-- one more event of a copy
pub copied_step : (es all done after : List EventInText) (i : ℕ) (x p : EventInText) → slice_get es i ≡ Some x → p ≡ x → after ≡ done ++ p ∷ []
    → done ++ drop i es ≡ all → after ++ drop (i + 1) es ≡ all
copied_step es all done after i x p at same is before =
    ap (λ w. w ++ drop (i + 1) es) is
    ∙ append_assoc done (p ∷ []) (drop (i + 1) es)
    ∙ ap (λ w. done ++ w) (ap (λ w. w ∷ drop (i + 1) es) same ∙ sym (drop_here es i x at))
    ∙ before
