-- The text of a flow collection that may be kept on one line, from the measures of flow collections only.
use Rattle.std.specs.Prelude.{◌≡◌, ℕ, true, if◌then◌else◌, List, [], Option, Some, None}
use Rattle.yf_events.specs.Event.{EventInText}
use Rattle.yf_events.specs.Tree.{Node}
use Rattle.yf_forms.specs.declared.form.measure.Measure.{Measure}
use Rattle.yf_forms.specs.declared.style.Style.{Style}
use Rattle.yf_forms.specs.Nodes.FlowsAlone.{flows_alone, is_flow}
use Rattle.yf_forms.specs.Nodes.SingleNodes.{NodeAt, kept_text_of}
use Rattle.yf_forms.specs.NormalForms.Measures.{AreMeasures}
use Rattle.yf_forms.specs.NormalForms.Normal.{LayoutSetting}
use Rattle.yf_forms.specs.Passes.OneLinePass.{between, run}

-- `answer` is the text on one line of the flow collection that the event at index i begins, or `None` if it may not be
-- kept, for each text t and setting c with which the flow collections have the measures ms
pub record TellsFlow (es : List EventInText) (s : Style) (ms : List Measure) (i : ℕ) (answer : Option (List ℕ)) : Type 0 where
  pub tells : (t : List ℕ) (c : LayoutSetting) → c.style ≡ s → AreMeasures t c (flows_alone 0 es) ms → (x : Node) → NodeAt es i x → is_flow x ≡ true
      → answer ≡ kept_text_of t c x

-- the text of the events from the index i to the last one of the measure m, if m allows keeping it on one line
abbrev pub text_measured : Style → List EventInText → ℕ → Measure → Option (List ℕ)
text_measured house es i m = if m.can_be_kept then Some (run house [] (between i m.last es)) else None
