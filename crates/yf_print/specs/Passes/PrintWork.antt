-- The input of the pass that prints a reading.
use Rattle.std.specs.Prelude.{ℕ, Bool, List, Option}
use Rattle.yf_events.specs.declared.lists.Lists.{Lists}
use Rattle.yf_forms.specs.declared.form.decide.Form.{Form}
use Rattle.yf_forms.specs.declared.form.measure.Measure.{Measure}
use Rattle.yf_forms.specs.declared.style.Style.{Style}
use Rattle.yf_print.specs.declared.printer.Plan.{Plan}
use Rattle.yf_print.specs.Passes.Drafts.{Remarks, remarks}
use Rattle.yf_print.specs.Passes.TrailPass.{TrailsSoFar, found}

-- the input of the pass: the source, the reading, and the results of earlier passes
pub record Work : Type 0 where
  pub text : List ℕ
  pub reading : Lists
  pub style : Style
  pub measures : List Measure
  pub forms : List Form
  -- for each event that begins a leaf, the index of the comment that trails it; and whether each comment trails
  pub trails : List (Option ℕ)
  pub trailing : List Bool

abbrev pub work_of : List ℕ → Lists → Style → List Measure → List Form → TrailsSoFar → Work
work_of text reading style measures forms trails = record {
  text = text;
  reading = reading;
  style = style;
  measures = measures;
  forms = forms;
  trails = trails.of_leaf;
  trailing = trails.trailing;
}

abbrev pub work : List ℕ → Lists → Plan → Work
work text reading plan = work_of text reading plan.style plan.measures plan.forms (found plan.trails)

abbrev pub remarks_of : Work → Remarks
remarks_of g = remarks g.text g.style g.reading.comments g.trailing
