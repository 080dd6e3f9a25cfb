-- The difference of a text and its formatting, as a unified diff.
use Rattle.std.specs.Prelude.{◌≡◌, ◌≢◌, ℕ, List, [], Bool, true, false, Option}
use Rattle.yf_diff.specs.Diff.{AddsDiff}
use Rattle.yf_lines.specs.declared.fault.Fault.{Fault}
use Rattle.yf_laws.specs.Format.{IsFormatting}
use Rattle.yf_laws.specs.FormatPromises.{FormatKept}
use Rattle.yf_forms.specs.declared.style.Style.{Style}
use Rattle.yf_laws.specs.Mended.{IsMended}
use Rattle.yf_rules.specs.Runs.ByteStream.{ByteStream, Writes, BreaksOff}
use Rattle.yf_rules.specs.Runs.Run.{RefusedRun, FormattingGiven}

-- A text was read, and this is the diff of it and its formatting, both under the name. The diff is empty if and only if
-- the text is its own formatting; then the text has no fixable finding.
pub record DiffOf (style : Style) (name : List ℕ) (known : Option (List ℕ)) (diff : List ℕ) : Type 0 where
  pub formatted : List ℕ
  pub rendered : FormattingGiven style known formatted
  pub written : AddsDiff name name rendered.text formatted [] diff
  pub told : diff ≡ [] → rendered.text ≡ formatted
  pub own : diff ≡ [] → FormatKept rendered.text style rendered.text
  pub other : diff ≢ [] → IsFormatting rendered.text style rendered.text → ⊥
  pub mended : diff ≡ [] → IsMended rendered.text style

-- whether nothing differs
abbrev pub is_same : List ℕ → Bool
is_same [] = true
is_same _ = false

-- A text was read, only the diff of it and its formatting was written, and the result is whether the text is its own
-- formatting.
pub record DiffRun (style : Style) (name : List ℕ) (input before after : ByteStream) (same : Bool) : Type 0 where
  pub diff : List ℕ
  pub of_text : DiffOf style name input.contents diff
  pub wrote : Writes before after diff
  pub answer : same ≡ is_same diff

-- A text was read that is not its own formatting, but the writer failed, and a prefix of the diff was written.
pub record BrokeOffDiff (style : Style) (name : List ℕ) (input before after : ByteStream) : Type 0 where
  pub diff : List ℕ
  pub of_text : DiffOf style name input.contents diff
  pub differs : diff ≢ []
  pub broke : BreaksOff before after diff

-- why the run that prints the diff is refused
abbrev pub RefusedDiff : Style → List ℕ → ByteStream → ByteStream → ByteStream → ByteStream → Fault → Type 0
RefusedDiff style name input left before after fault =
    RefusedRun (BrokeOffDiff style name input before after) input left before after fault
