-- The text printed for a normal form is its layout, and the comments that the pass finds to trail are those of the
-- layout.
use Rattle.std.proofs.Common.{◌≡◌, ℕ, ◌≤◌, ◌+◌, List, [], refl, sym, ◌∙◌, subst, arith}
use Rattle.std.specs.Prelude.{◌-◌, ◌*◌, ◌^◌}
use Rattle.yf_events.specs.Tree.{DocumentTree, TreesOf}
use Rattle.yf_events.specs.declared.lists.Lists.{Lists}
use Rattle.yf_events.specs.declared.reading.TheConstants.{DEPTH}
use Rattle.yf_stream.proofs.LawsHold.{comments_of_readings_ascend}
use Rattle.yf_forms.specs.declared.form.decide.Form.{Form}
use Rattle.yf_forms.specs.declared.form.measure.Measure.{Measure}
use Rattle.yf_forms.specs.declared.style.Style.{Style}
use Rattle.yf_forms.specs.NormalForms.Forms.{AreForms, stream_forms}
use Rattle.yf_laws.specs.Layouts.Layout.{IsLayout, layout}
use Rattle.yf_forms.specs.NormalForms.Measures.{AreMeasures}
use Rattle.yf_forms.specs.Passes.MeasurePass.{setting}
use Rattle.yf_forms.specs.NormalForms.Normal.{setting_of}
use Rattle.yf_laws.specs.NormalForms.NormalForm.{NormalForm}
use Rattle.yf_print.specs.Passes.PrintPass.{printed}
use Rattle.yf_print.specs.Passes.PrintWork.{work_of}
use Rattle.yf_laws.specs.PassLaws.{LayoutsArePrinted, TrailsAreFound}
use Rattle.yf_laws.specs.Passes.PrintedText.{IsPrinted, Printout}
use Rattle.yf_forms.specs.NormalForms.Textual.{CommentsAscend}
use Rattle.yf_print.specs.Passes.TrailPass.{all_found}
use Rattle.yf_laws.specs.Layouts.TrailsOf.{LayoutTrails}
use Rattle.yf_laws.proofs.Printer.LayoutPrinted.{printed_layout}
use Rattle.yf_laws.proofs.NormalForms.NormalParts.{Laid, laid_out, trees_in, trees_of}
use Rattle.yf_laws.proofs.Printer.MeasureFacts.{MeasuresTell, measured_tells}
use Rattle.yf_laws.proofs.Trails.TrailsHold.{trails_found}
use Rattle.yf_laws.proofs.Derived.BareFound.{found_bare, form_bare, form_laid}

ascends : {m : Lists} {s : Style} → NormalForm m s → CommentsAscend m
ascends {m} {s} f = subst CommentsAscend (sym f.is.is) (comments_of_readings_ascend f.text f.reading f.reads)

forms_are : {m : Lists} {s : Style} {ms : List Measure} {fs : List Form} (ds : List DocumentTree) → NormalForm m s → TreesOf m ds → Laid m s ds
    → AreMeasures [] (setting s []) m.events ms → AreForms m s ms fs → fs ≡ stream_forms [] (setting s []) (setting_of m s) ds
forms_are {m} {s} ds f a l measured decided = decided.are (ascends f) [] [] ds a l.placing.placed measured

trails_hold : (m : Lists) (s : Style) (ms : List Measure) (fs : List Form) → NormalForm m s → MeasuresTell m.events ms
    → (ds : List DocumentTree) → TreesOf m ds → fs ≡ stream_forms [] (setting s []) (setting_of m s) ds → LayoutTrails m s ds (all_found m ms fs)
trails_hold m s ms fs f told ds a forms = trails_found m s DEPTH ds ms fs (laid_out f ds a).placing told forms

pub trails_are : TrailsAreFound
trails_are m ms fs g e = record {
  finds = λ s f measured decided ds a.
      subst (λ w. LayoutTrails m s ds w) (sym e)
      (trails_hold m s ms fs f (measured_tells measured) ds a (forms_are ds f a (laid_out f ds a) measured decided));
}

room : 8 * DEPTH + 8 ≤ 2 ^ 64 - 1
room = let e : DEPTH ≡ 1024 = refl in omega (arith, e)

-- the text printed with these forms is the layout, if the measures give each node's end and first leaf
pub printed_lays_out : (t : List ℕ) (m : Lists) (s : Style) (ms : List Measure) (fs : List Form) → NormalForm m s → (ds : List DocumentTree) → TreesOf m ds
    → MeasuresTell m.events ms → fs ≡ stream_forms [] (setting s []) (setting_of m s) ds → printed (work_of t m s ms fs (all_found m ms fs)) ≡ layout t m s ds
printed_lays_out t m s ms fs f ds a told forms =
    let l = laid_out f ds a in
    printed_layout t m s ms fs (all_found m ms fs) DEPTH ds a told forms l.placing.placed l.begin l.placing.normal room l.placing.ascend l.placing.noted
    (trails_hold m s ms fs f told ds a forms) (found_bare m s f) (form_bare m s f ds a) (form_laid m s f ds a)

printout_writes : (t : List ℕ) (m : Lists) (s : Style) (u : List ℕ) → Printout t m s u → NormalForm m s → IsLayout t m s u
printout_writes t m s u p f =
    let ds : List DocumentTree = trees_in f in
    let a : TreesOf m ds = trees_of f in
    record {
      trees = ds;
      of_reading = a;
      is = p.is ∙ printed_lays_out t m s p.measures p.forms f ds a (measured_tells p.measured) (forms_are ds f a (laid_out f ds a) p.measured p.decided);
    }

pub is_printed : (t : List ℕ) (m : Lists) (s : Style) (u : List ℕ) → Printout t m s u → IsPrinted t m s u
is_printed t m s u p = record { printout = p; writes = printout_writes t m s u p }

-- and the text printed from the measures and forms of the reading
pub planned : LayoutsArePrinted
planned t m s ms fs u measured decided e = is_printed t m s u (record { measures = ms; forms = fs; measured = measured; decided = decided; is = e })
