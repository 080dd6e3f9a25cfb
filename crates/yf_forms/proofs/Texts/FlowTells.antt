-- The text of a flow collection from the measures of flow collections only.
use Rattle.std.proofs.Common.{◌≡◌, ℕ, ◌+◌, true, false, List, [], ◌++◌, Some, None, length, get_or, refl, sym, ap, ◌∙◌, subst}
use Rattle.std.proofs.lemmas.Option.{get_or_from_slice_get}
use Rattle.yf_events.specs.Event.{EventInText}
use Rattle.yf_events.specs.Tree.{Node, flat}
use Rattle.yf_forms.specs.declared.form.measure.Measure.{Measure}
use Rattle.yf_forms.specs.declared.style.Style.{Style}
use Rattle.yf_forms.specs.Nodes.FlowTexts.{TellsFlow, text_measured}
use Rattle.yf_forms.specs.Nodes.FlowsAlone.{flows_alone, is_flow}
use Rattle.yf_forms.specs.Nodes.SingleNodes.{AddsKept, NodeAt}
use Rattle.yf_forms.specs.NormalForms.Measures.{AreMeasures, measure_of, no_measure}
use Rattle.yf_forms.specs.NormalForms.Normal.{LayoutSetting}
use Rattle.yf_forms.specs.Passes.OneLinePass.{between, run}
use Rattle.yf_forms.proofs.Measure.FlowParts.{flow_at}
use Rattle.yf_forms.proofs.Texts.KeptLemmas.{kept_text_none, kept_text_some, last_then}
use Rattle.yf_forms.proofs.Texts.OneLineRuns.{flat_filled}

measure_here : (t : List ℕ) (c : LayoutSetting) (es : List EventInText) (ms : List Measure) (i : ℕ) (x : Node) → AreMeasures t c (flows_alone 0 es) ms → NodeAt es i x
    → is_flow x ≡ true → get_or ms i no_measure ≡ measure_of t c i x
measure_here t c es ms i x m n f = get_or_from_slice_get ms i (measure_of t c i x) no_measure (m.each i x (flow_at n f))

pub flow_tells_some : (es : List EventInText) (s : Style) (ms : List Measure) (i : ℕ) (m : Measure) (old new : List ℕ) → m ≡ get_or ms i no_measure → old ≡ []
    → AddsKept es s i m.last old new → m.can_be_kept ≡ true → TellsFlow es s ms i (Some new)
flow_tells_some es s ms i m old new f b a k = record {
  tells = λ t c e d x n w.
      let here : m ≡ measure_of t c i x = f ∙ measure_here t c es ms i x d n w in
      sym (kept_text_some t c x es s i m.last new (subst (λ v. AddsKept es s i m.last v new) b a) e n
      (ap (λ v. v.last + 1) here ∙ last_then i (length (flat x)) (flat_filled x)) (sym (ap (λ v. v.can_be_kept) here) ∙ k));
}

pub flow_tells_none : (es : List EventInText) (s : Style) (ms : List Measure) (i : ℕ) (m : Measure) → m ≡ get_or ms i no_measure → m.can_be_kept ≡ false
    → TellsFlow es s ms i None
flow_tells_none es s ms i m f k = record {
  tells = λ t c e d x n w.
      let here : m ≡ measure_of t c i x = f ∙ measure_here t c es ms i x d n w in
      sym (kept_text_none t c x (sym (ap (λ v. v.can_be_kept) here) ∙ k));
}

pub text_some : (q : Style) (es : List EventInText) (i : ℕ) (m n : Measure) (old new : List ℕ) → m ≡ n → old ≡ [] → new ≡ old ++ run q [] (between i m.last es)
    → m.can_be_kept ≡ true → Some new ≡ text_measured q es i n
text_some q es i m n old new e b a k =
    let h : n.can_be_kept ≡ true = sym (ap (λ w. w.can_be_kept) e) ∙ k in
    rw h (ap Some (a ∙ ap (λ w. w ++ run q [] (between i m.last es)) b ∙ ap (λ w. run q [] (between i w.last es)) e))

pub text_none : (q : Style) (es : List EventInText) (i : ℕ) (m n : Measure) → m ≡ n → m.can_be_kept ≡ false → None ≡ text_measured q es i n
text_none q es i m n e k =
    let h : n.can_be_kept ≡ false = sym (ap (λ w. w.can_be_kept) e) ∙ k in
    rw h refl
