-- A normal form is printed from the measures and forms of the reading that it comes from: its own forms are equal, and
-- its own measures agree in what the printer uses.
use Rattle.std.proofs.Common.{◌≡◌, ℕ, true, List, [], map, sym, ap, ◌∙◌, subst}
use Rattle.yf_events.specs.declared.lists.Lists.{Lists}
use Rattle.yf_events.proofs.TreeLemmas.{trees_unique}
use Rattle.yf_forms.specs.declared.form.decide.Form.{Form}
use Rattle.yf_forms.specs.declared.form.measure.Measure.{Measure}
use Rattle.yf_forms.specs.declared.style.Style.{Style}
use Rattle.yf_laws.specs.FormatPromises.{FormatKept}
use Rattle.yf_laws.specs.PassLaws.{HandedOn, NormalFormsAreMade}
use Rattle.yf_forms.specs.NormalForms.Forms.{documents_are_placed, stream_forms}
use Rattle.yf_forms.specs.Passes.FoundInPass.{FoundInPass}
use Rattle.yf_laws.specs.Layouts.Layout.{layout}
use Rattle.yf_forms.specs.NormalForms.Measures.{AreMeasures}
use Rattle.yf_forms.specs.Passes.MeasurePass.{found, pass, setting}
use Rattle.yf_forms.specs.NormalForms.Normal.{Normal, setting_of}
use Rattle.yf_laws.specs.NormalForms.NormalForm.{NormalForm}
use Rattle.yf_print.specs.Passes.PrintPass.{printed}
use Rattle.yf_print.specs.Passes.PrintWork.{work_of}
use Rattle.yf_forms.specs.NormalForms.Textual.{IsTextual}
use Rattle.yf_print.specs.Passes.TrailPass.{all_found}
use Rattle.yf_laws.proofs.FormatKeeps.{format_keeps}
use Rattle.yf_laws.proofs.Printer.LayoutHolds.{printed_lays_out}
use Rattle.yf_forms.proofs.Measure.MeasuredLemmas.{measured_all}
use Rattle.yf_forms.proofs.NormalForms.NormalLemmas.{normal_reading}
use Rattle.yf_laws.proofs.NormalForms.NormalParts.{trees_in, trees_of}
use Rattle.yf_laws.proofs.OfTexts.ReadingsOfTexts.{reading_is_textual}
use Rattle.yf_laws.proofs.Printer.SameMeasures.{same_measures, same_texts}
use Rattle.yf_laws.proofs.NormalForms.SettledForms.{stream_stays}
use Rattle.yf_forms.proofs.Measure.StepLemmas.{measured_in_pass}
use Rattle.yf_laws.proofs.Printer.MeasureFacts.{MeasuresTell, asked, measured_tells, told_alike}

-- the events made from the measures and forms of a reading are those of its normal form
pub normal_made : NormalFormsAreMade
normal_made t r m s ms fs w measured decided k e =
    let is_measured : AreMeasures t (setting_of r s) r.events ms = measured_in_pass (measured w.comments) in
    normal_reading t r m s ms fs w.trees w.of_reading is_measured
    (decided.are w.comments t r.comments w.trees w.of_reading w.placed is_measured) e k.rest

module _ {t : List ℕ} {r m : Lists} {s : Style} {ms : List Measure} {fs : List Form} (h : HandedOn t r m s ms fs) where
  textual : IsTextual r
  textual = reading_is_textual h.utf8 h.reads

  in_pass : FoundInPass t (setting_of r s) r.events ms
  in_pass = h.measured textual.comments

  pub made : Normal t r s m
  made = normal_made t r m s ms fs textual h.measured h.decided h.restyled h.events

  abbrev normal : NormalForm m s
  normal = record {
    text = t;
    utf8 = h.utf8;
    reading = r;
    reads = h.reads;
    is = made;
    nested = h.nested;
  }

  same_setting : setting_of m s ≡ setting_of r s
  same_setting = ap (λ (w : Lists). setting_of w s) made.is

  placed : documents_are_placed made.trees ≡ true
  placed = subst (λ ds. documents_are_placed ds ≡ true) (trees_unique r textual.trees made.trees textual.of_reading made.of_reading) textual.placed

  same_forms : fs ≡ stream_forms [] (setting s []) (setting_of m s) (trees_in normal)
  same_forms =
      h.decided.are textual.comments t r.comments made.trees made.of_reading placed (measured_in_pass in_pass)
      ∙ (sym (stream_stays t (setting_of r s) made.trees) ∙ ap (λ c. stream_forms [] (setting s []) c (trees_in normal)) (sym same_setting))

  abbrev own : List Measure
  own = (pass [] (setting s []) m.events (found [] [])).list

  own_measured : AreMeasures [] (setting s []) m.events own
  own_measured = measured_all [] (setting s []) m.events (same_texts h.restyled.events ∙ in_pass.texts)

  told : MeasuresTell m.events ms
  told = told_alike (ap (map asked) in_pass.is ∙ same_measures t [] (setting_of r s) (setting s []) h.restyled.events) (measured_tells own_measured)

  lays_out : printed (work_of t m s ms fs (all_found m ms fs)) ≡ layout t m s (trees_in normal)
  lays_out = printed_lays_out t m s ms fs normal (trees_in normal) (trees_of normal) told same_forms

  -- so it is the formatting of the text
  pub kept_so : (u : List ℕ) → u ≡ printed (work_of t m s ms fs (all_found m ms fs)) → FormatKept t s u
  kept_so u e = format_keeps t s u h.utf8 (record {
    reading = r;
    normal = m;
    reads = h.reads;
    is_normal = made;
    writes = record { trees = trees_in normal; of_reading = trees_of normal; is = e ∙ lays_out };
  })
