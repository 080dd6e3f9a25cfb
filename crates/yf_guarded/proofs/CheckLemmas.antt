-- The findings of a text with its fault, and their lines.
use Rattle.std.proofs.Common.{◌≡◌, ℕ, List, Bool, Option, Some, Result, Ok, Err, subst, sym}
use Rattle.std.specs.Prelude.{IfErr, IfOk}
use Rattle.yf_events.specs.Nested.{IsStream}
use Rattle.yf_events.specs.Reading.{events_of}
use Rattle.yf_events.specs.declared.lists.Lists.{Lists}
use Rattle.yf_events.specs.declared.reading.TheConstants.{DEPTH}
use Rattle.yf_forms.specs.declared.style.Style.{Style}
use Rattle.yf_guarded.specs.Checked.{CheckedBroke, CheckedRun, FaultsFound, FoundIn, IsChecked}
use Rattle.yf_guarded.specs.Checked.CheckedBroke.{broke_off}
use Rattle.yf_guarded.specs.Checked.CheckedRun.{checked}
use Rattle.yf_guarded.specs.Judged.{Gives, ReadGuard, WithFault}
use Rattle.yf_lines.specs.Lines.{AreLines, Table}
use Rattle.yf_lines.specs.declared.fault.Fault.{Fault}
use Rattle.yf_lines.specs.declared.fault.Fault.TheVariants.{WriteFailed}
use Rattle.yf_rules.proofs.Findings.FindingLemmas.{found_text}
use Rattle.yf_rules.proofs.Runs.GivenTexts.{left_of}
use Rattle.yf_rules.specs.Runs.ByteStream.{BreaksOff, ByteStream, Writes}
use Rattle.yf_rules.specs.Runs.Run.{CheckClaim, RefusedRun, findings_text, has_any}
use Rattle.yf_rules.specs.declared.finding.Finding.{Finding}
use Rattle.yf_stream.specs.StreamReader.{TheReading}

-- The findings in a text, from those in its reading.
pub found_in : (C : CheckClaim) (style : Style) (text : List ℕ) (src : Table) (reading : Lists) (all : List Finding)
    → src.text ≡ text → AreLines text src.lines → IsStream DEPTH (events_of reading) → TheReading text reading
    → FaultsFound C style src reading all → FoundIn C style text all
found_in C style text src reading all same lines nested reads f =
    let outcome : Result (List Finding) Fault = Ok f.findings in
    record {
      findings = f.findings;
      found = found_text C style src reading (λ (v : List Finding). v) outcome same lines nested reads f.checked f.mends;
      fault = f.fault;
      guard = subst (λ (t : List ℕ). ReadGuard t f.fault) same f.guard;
      among = subst (λ (t : List ℕ). WithFault t f.findings f.fault all) same f.among;
    }

-- The lines of the findings were written, or the writer failed.
module _ (C : CheckClaim) (style : Style) (input before after : ByteStream) {t : List ℕ} {all : List Finding}
    (given : Gives (IsChecked C style all) input.contents t) where
  pub lines_written : (outcome : Result (Option Bool) Fault) → IfOk outcome (λ any. Writes before after (findings_text all))
      → IfOk outcome (λ any. any ≡ Some (has_any all)) → IfOk outcome (CheckedRun C style input before after)
  lines_written (Ok any) wrote answer = checked given wrote answer
  lines_written (Err fault) wrote answer = tt

  pub lines_broke : {failed : Bool} (outcome : Result (Option Bool) Fault) → failed ≡ input.failed
      → IfErr outcome (λ fault. (fault ≡ WriteFailed) × BreaksOff before after (findings_text all))
      → IfErr outcome (RefusedRun (CheckedBroke C style input.contents before after) input (left_of input failed) before after)
  lines_broke (Ok any) works broke = tt
  lines_broke {failed} (Err fault) works broke =
      subst (RefusedRun (CheckedBroke C style input.contents before after) input (left_of input failed) before after) (sym broke.0)
      (broke_off given broke.1, works)
