-- The text that one pass over the events of a reading prints, from the measures and forms of its nodes and from the
-- comments that trail.
use Rattle.std.specs.Prelude.{◌≡◌, ℕ, List, []}
use Rattle.yf_events.specs.declared.lists.Lists.{Lists}
use Rattle.yf_forms.specs.declared.form.decide.Form.{Form}
use Rattle.yf_forms.specs.declared.form.measure.Measure.{Measure}
use Rattle.yf_forms.specs.declared.style.Style.{Style}
use Rattle.yf_forms.specs.NormalForms.Forms.{AreForms}
use Rattle.yf_laws.specs.Layouts.Layout.{IsLayout}
use Rattle.yf_forms.specs.NormalForms.Measures.{AreMeasures}
use Rattle.yf_forms.specs.Passes.MeasurePass.{setting}
use Rattle.yf_laws.specs.NormalForms.NormalForm.{NormalForm}
use Rattle.yf_print.specs.Passes.PrintPass.{printed}
use Rattle.yf_print.specs.Passes.PrintWork.{work_of}
use Rattle.yf_print.specs.Passes.TrailPass.{all_found}

-- u is the text printed for the reading m of the text t
pub record Printout (t : List ℕ) (m : Lists) (s : Style) (u : List ℕ) : Type 0 where
  pub measures : List Measure
  pub forms : List Form
  pub measured : AreMeasures [] (setting s []) m.events measures
  pub decided : AreForms m s measures forms
  pub is : u ≡ printed (work_of t m s measures forms (all_found m measures forms))

-- and it is the layout of m with the columns of t, if m is the normal form of a text's reading
pub record IsPrinted (t : List ℕ) (m : Lists) (s : Style) (u : List ℕ) : Type 0 where
  pub printout : Printout t m s u
  pub writes : NormalForm m s → IsLayout t m s u
