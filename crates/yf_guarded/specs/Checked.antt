-- What a check finds in a text, with the finding that says why the text is no data.
-- (C: what the rules find, by the lines and the reading of a text)
use Rattle.std.specs.Prelude.{◌≡◌, ℕ, List, Bool, Option, Some, None}
use Rattle.yf_events.specs.declared.lists.Lists.{Lists}
use Rattle.yf_forms.specs.declared.style.Style.{Style}
use Rattle.yf_guard.specs.Guards.{IsVault}
use Rattle.yf_guard.specs.declared.guarded.Guarded.{Guarded}
use Rattle.yf_guarded.specs.Judged.{Gives, ReadGuard, WithFault}
use Rattle.yf_laws.specs.Mended.{IsFormatted}
use Rattle.yf_lines.specs.Lines.{Table}
use Rattle.yf_rules.specs.Findings as Rules
use Rattle.yf_rules.specs.NothingToFix.{NoneFixable}
use Rattle.yf_rules.specs.Runs.ByteStream.{BreaksOff, ByteStream, NothingWritten, Writes}
use Rattle.yf_rules.specs.Runs.Run.{CheckClaim, findings_text, has_any}
use Rattle.yf_rules.specs.declared.finding.Finding.{Finding}

-- The findings of the rules in a text with this reading, and among them that of the fault, if the text has one.
pub record FaultsFound (C : CheckClaim) (style : Style) (src : Table) (reading : Lists) (all : List Finding) : Type 0 where
  pub findings : List Finding
  pub checked : C src reading findings
  pub mends : IsFormatted src reading style → NoneFixable findings
  pub fault : Option Guarded
  pub guard : ReadGuard src.text fault
  pub among : WithFault src.text findings fault all

-- The findings of the rules in a text, and among them that of the fault, if the text has one.
pub record FoundIn (C : CheckClaim) (style : Style) (text : List ℕ) (all : List Finding) : Type 0 where
  pub findings : List Finding
  pub found : Rules.FoundIn C style text findings
  pub fault : Option Guarded
  pub guard : ReadGuard text fault
  pub among : WithFault text findings fault all

-- The text is not encrypted, and these are its findings.
abbrev pub IsChecked : CheckClaim → Style → List Finding → List ℕ → Type 0
IsChecked C style all t = (¬ (IsVault t)) × FoundIn C style t all

-- An encrypted text was read, and nothing was written; or a line was written for each finding, and the result is
-- whether there is one.
pub data CheckedRun (C : CheckClaim) (style : Style) (input before after : ByteStream) (any : Option Bool) : Type 0 where
  encrypted : {t : List ℕ} → Gives IsVault input.contents t → NothingWritten before after → any ≡ None
      → CheckedRun C style input before after any
  checked : {t : List ℕ} {all : List Finding} → Gives (IsChecked C style all) input.contents t
      → Writes before after (findings_text all) → any ≡ Some (has_any all) → CheckedRun C style input before after any

-- A text was read and checked, but the writer failed, and a prefix of the lines was written.
pub data CheckedBroke (C : CheckClaim) (style : Style) (known : Option (List ℕ)) (before after : ByteStream) : Type 0 where
  broke_off : {t : List ℕ} {all : List Finding} → Gives (IsChecked C style all) known t
      → BreaksOff before after (findings_text all) → CheckedBroke C style known before after
