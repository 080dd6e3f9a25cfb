-- The measures that one pass over the events of a reading finds.
use Rattle.std.specs.Prelude.{◌≡◌, ℕ, true, List, []}
use Rattle.yf_events.specs.Event.{EventInText}
use Rattle.yf_forms.specs.declared.form.measure.Measure.{Measure}
use Rattle.yf_forms.specs.Passes.MeasurePass.{found, have_texts, pass}
use Rattle.yf_forms.specs.NormalForms.Normal.{LayoutSetting}

-- the list has the results of a pass over these events in the text t; the texts of the events are UTF-8
pub record FoundInPass (t : List ℕ) (c : LayoutSetting) (es : List EventInText) (ms : List Measure) : Type 0 where
  pub is : ms ≡ (pass t c es (found [] [])).list
  pub texts : have_texts es ≡ true
