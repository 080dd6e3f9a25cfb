-- The laws that the passes give what the definitions state.
use Rattle.std.specs.Prelude.{◌≡◌, ℕ, List, []}
use Rattle.std.specs.Str.{IsUtf8}
use Rattle.yf_events.specs.Nested.{IsStream}
use Rattle.yf_events.specs.Reading.{events_of}
use Rattle.yf_events.specs.declared.lists.Lists.{Lists}
use Rattle.yf_events.specs.declared.reading.TheConstants.{DEPTH}
use Rattle.yf_stream.specs.ReadingOf.{ReadingOf}
use Rattle.yf_forms.specs.declared.form.decide.Form.{Form}
use Rattle.yf_forms.specs.declared.form.measure.Measure.{Measure}
use Rattle.yf_forms.specs.declared.style.Style.{Style}
use Rattle.yf_forms.specs.NormalForms.Forms.{AreForms}
use Rattle.yf_forms.specs.NormalForms.Measures.{AreMeasures}
use Rattle.yf_forms.specs.NormalForms.Normal.{Normal, setting_of}
use Rattle.yf_forms.specs.NormalForms.Restyled.{IsRestyled}
use Rattle.yf_forms.specs.NormalForms.Textual.{CommentsAscend, IsTextual}
use Rattle.yf_forms.specs.Passes.FoundInPass.{FoundInPass}
use Rattle.yf_forms.specs.Passes.MeasurePass.{setting}
use Rattle.yf_forms.specs.Passes.NormalEvents.{normal_from}
use Rattle.yf_print.specs.Passes.PrintPass.{printed}
use Rattle.yf_print.specs.Passes.PrintWork.{work_of}
use Rattle.yf_print.specs.Passes.TrailPass.{TrailsSoFar, all_found}
use Rattle.yf_laws.specs.FormatPromises.{FormatKept}
use Rattle.yf_laws.specs.Layouts.TrailsOf.{FindsTrails}
use Rattle.yf_laws.specs.Passes.PrintedText.{IsPrinted}

-- the premises under which a normal form is printed with the results found for the reading of the text
pub record HandedOn (t : List ℕ) (r m : Lists) (s : Style) (ms : List Measure) (fs : List Form) : Type 0 where
  pub utf8 : IsUtf8 t
  pub reads : ReadingOf t r
  pub measured : CommentsAscend r → FoundInPass t (setting_of r s) r.events ms
  pub decided : AreForms r s ms fs
  pub restyled : IsRestyled s r m
  pub events : m.events ≡ normal_from s ms 0 0 fs r.events
  pub nested : IsStream DEPTH (events_of m)

-- The printed text is the formatting of the text, with all its promises.
abbrev pub FormattingsAreKept : Type 0
FormattingsAreKept = (t : List ℕ) (r m : Lists) (s : Style) (ms : List Measure) (fs : List Form) (u : List ℕ) → HandedOn t r m s ms fs
    → u ≡ printed (work_of t m s ms fs (all_found m ms fs)) → FormatKept t s u

-- The events made from the measures and forms of a reading are those of its normal form.
abbrev pub NormalFormsAreMade : Type 0
NormalFormsAreMade = (t : List ℕ) (r m : Lists) (s : Style) (ms : List Measure) (fs : List Form) → IsTextual r
    → (CommentsAscend r → FoundInPass t (setting_of r s) r.events ms) → AreForms r s ms fs → IsRestyled s r m
    → m.events ≡ normal_from s ms 0 0 fs r.events → Normal t r s m

-- The text printed for a normal form from its measures and forms is its layout.
abbrev pub LayoutsArePrinted : Type 0
LayoutsArePrinted = (t : List ℕ) (m : Lists) (s : Style) (ms : List Measure) (fs : List Form) (u : List ℕ) → AreMeasures [] (setting s []) m.events ms → AreForms m s ms fs
    → u ≡ printed (work_of t m s ms fs (all_found m ms fs)) → IsPrinted t m s u

-- The comments that the pass finds to trail are those that trail in the layout.
abbrev pub TrailsAreFound : Type 0
TrailsAreFound = (m : Lists) (ms : List Measure) (fs : List Form) (g : TrailsSoFar) → g ≡ all_found m ms fs → FindsTrails m ms fs g
