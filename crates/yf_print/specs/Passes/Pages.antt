-- The reading to print, and the decisions on it.
use Rattle.std.specs.Prelude.{ℕ, [], get_or, None}
use Rattle.yf_events.specs.Event.{EventInText, stream_starts}
use Rattle.yf_forms.specs.declared.form.decide.Form.{Form}
use Rattle.yf_forms.specs.declared.form.measure.Measure.{Measure}
use Rattle.yf_print.specs.declared.printer.PrintContext.{PrintContext}
use Rattle.yf_forms.specs.NormalForms.Forms.{no_form}
use Rattle.yf_forms.specs.NormalForms.Measures.{no_measure}
use Rattle.yf_print.specs.Passes.PrintWork.{Work, work}

abbrev pub work_on : PrintContext → Work
work_on page = work page.text.now page.reading.now page.plan.now

-- the event at an index; past the end, one without a span
abbrev pub no_event : EventInText
no_event = record { event = stream_starts; span = None; tag_offset = None; entry = None; folded = [] }

abbrev pub placed_at : PrintContext → ℕ → EventInText
placed_at page i = get_or page.reading.now.events i no_event

-- the measure and the form of the node that the event begins
abbrev pub measure_at : PrintContext → ℕ → Measure
measure_at page i = get_or page.plan.now.measures i no_measure

abbrev pub form_at : PrintContext → ℕ → Form
form_at page i = get_or page.plan.now.forms i no_form
