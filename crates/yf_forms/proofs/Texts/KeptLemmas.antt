-- A pass over events adds the text of a kept collection: `kept_text_of`.
use Rattle.std.proofs.Common.{◌≡◌, ℕ, ◌+◌, ◌-◌, ◌≤◌, true, false, ◌&&◌, List, [], length, Some, None, refl, sym, ap, subst, ◌∙◌, arith, true≢false}
use Rattle.std.specs.Prelude.{get_or}
use Rattle.std.proofs.lemmas.Option.{get_or_from_slice_get}
use Rattle.std.proofs.lemmas.Bool.{and_parts}
use Rattle.yf_events.specs.Event.{EventInText}
use Rattle.yf_forms.specs.declared.style.Style.{Style}
use Rattle.yf_forms.specs.Nodes.SingleNodes.{AddsKept, NodeAt, kept_text_of}
use Rattle.yf_forms.specs.Nodes.OneLineFlows.{may_be_kept}
use Rattle.yf_forms.specs.declared.form.measure.Measure.{Measure}
use Rattle.yf_forms.specs.NormalForms.Measures.{AreMeasures, TellsKept, measure_of, no_measure}
use Rattle.yf_forms.proofs.Texts.OneLineRuns.{flat_filled}
use Rattle.yf_forms.specs.NormalForms.Normal.{LayoutSetting}
use Rattle.yf_events.specs.Tree.{Node, scalar, alias, sequence, mapping, flat, is_collection, is_filled_flow}

-- A kept collection's text as a result

filled_collection : (x : Node) → is_filled_flow x ≡ true → is_collection x ≡ true
filled_collection (scalar at props style text lines) e = absurd (true≢false (sym e))
filled_collection (alias at name) e = absurd (true≢false (sym e))
filled_collection (sequence at flow props xs) e = refl
filled_collection (mapping at flow props ps) e = refl

pub kept_text_some : (t : List ℕ) (c : LayoutSetting) (x : Node) (es : List EventInText) (s : Style) (i last : ℕ) (new : List ℕ) → AddsKept es s i last [] new
    → c.style ≡ s → NodeAt es i x → last + 1 ≡ i + length (flat x) → (is_filled_flow x && may_be_kept t c.comments x) ≡ true
    → kept_text_of t c x ≡ Some new
kept_text_some t c x es s i last new a e n l k =
    let parts = and_parts (is_filled_flow x) (may_be_kept t c.comments x) k in
    rw k (ap Some (sym (a.adds t c x e n l (filled_collection x parts.0) parts.1)))

pub kept_text_none : (t : List ℕ) (c : LayoutSetting) (x : Node) → (is_filled_flow x && may_be_kept t c.comments x) ≡ false → kept_text_of t c x ≡ None
kept_text_none t c x k = rw k refl

-- the result from the measure at the node's index

measure_at : (t : List ℕ) (c : LayoutSetting) (es : List EventInText) (ms : List Measure) (i : ℕ) (x : Node) → AreMeasures t c es ms → NodeAt es i x
    → get_or ms i no_measure ≡ measure_of t c i x
measure_at t c es ms i x m n = get_or_from_slice_get ms i (measure_of t c i x) no_measure (m.each i x n)

pub last_then : (i n : ℕ) → 1 ≤ n → i + n - 1 + 1 ≡ i + n
last_then i n l = omega (arith, l)

pub tells_some : (es : List EventInText) (s : Style) (ms : List Measure) (i : ℕ) (m : Measure) (old new : List ℕ) → m ≡ get_or ms i no_measure → old ≡ []
    → AddsKept es s i m.last old new → m.can_be_kept ≡ true → TellsKept es s ms i (Some new)
tells_some es s ms i m old new f b a k = record {
  tells = λ t c e d. record {
    is = λ x n.
        let here : m ≡ measure_of t c i x = f ∙ measure_at t c es ms i x d n in
        sym (kept_text_some t c x es s i m.last new (subst (λ w. AddsKept es s i m.last w new) b a) e n
        (ap (λ w. w.last + 1) here ∙ last_then i (length (flat x)) (flat_filled x)) (sym (ap (λ w. w.can_be_kept) here) ∙ k));
  };
}

pub tells_none : (es : List EventInText) (s : Style) (ms : List Measure) (i : ℕ) (m : Measure) → m ≡ get_or ms i no_measure → m.can_be_kept ≡ false
    → TellsKept es s ms i None
tells_none es s ms i m f k = record {
  tells = λ t c e d. record {
    is = λ x n.
        let here : m ≡ measure_of t c i x = f ∙ measure_at t c es ms i x d n in
        sym (kept_text_none t c x (sym (ap (λ w. w.can_be_kept) here) ∙ k));
  };
}
