-- Whether a text is its own formatting, and the position at which they first differ.
use Rattle.std.specs.Prelude.{◌≡◌, ◌≢◌, ℕ, List, [], ◌∷◌, take, Bool, Option, Some, None, MatchOption, codes, decimal}
use Rattle.std.specs.List.{concat}
use Rattle.std.specs.Option.{is_none}
use Rattle.std.specs.Str.{IsCharBoundary}
use Rattle.yf_chars.specs.Text.{code}
use Rattle.yf_lines.specs.FaultPlaces.{IsPlaceOf}
use Rattle.yf_lines.specs.declared.fault.Fault.{Fault}
use Rattle.yf_lines.specs.declared.place.Position.{Position}
use Rattle.yf_laws.specs.Format.{IsFormatting}
use Rattle.yf_laws.specs.FormatPromises.{FormatKept}
use Rattle.yf_forms.specs.declared.style.Style.{Style}
use Rattle.yf_laws.specs.Mended.{IsMended}
use Rattle.yf_rules.specs.Runs.ByteStream.{ByteStream, Writes, BreaksOff}
use Rattle.yf_rules.specs.Runs.Run.{RefusedRun, FormattingGiven}

-- the texts are equal before the offset, which is a boundary in both
pub record SameUpTo (t u : List ℕ) (at : ℕ) : Type 0 where
  pub boundary : IsCharBoundary t at
  pub other_boundary : IsCharBoundary u at
  pub same : take at t ≡ take at u

-- the texts are equal before the offset, and there they have different characters, or one of them ends
pub record DifferAt (t u : List ℕ) (at : ℕ) : Type 0 where
  pub before : SameUpTo t u at
  pub differ : code t at ≢ code u at

-- the position in t of the first difference between t and u, or of its end
pub data DiffersFirst (t u : List ℕ) (place : Position) : Type 0 where
  differs_first : {at : ℕ} → DifferAt t u at → IsPlaceOf t at place → DiffersFirst t u place

-- A text was read, and the position is the first one at which it differs from its formatting. There is no position if
-- and only if the text is its own formatting; then it has no fixable finding.
pub record Difference (style : Style) (known : Option (List ℕ)) (place : Option Position) : Type 0 where
  pub formatted : List ℕ
  pub rendered : FormattingGiven style known formatted
  pub first : MatchOption place (rendered.text ≡ formatted) (DiffersFirst rendered.text formatted)
  pub exact : MatchOption place (FormatKept rendered.text style rendered.text)
      (λ _. IsFormatting rendered.text style rendered.text → ⊥)
  pub mended : MatchOption place (IsMended rendered.text style) (λ _. Unit {0})

-- the line of a text that is not its own formatting
abbrev pub difference_line : Position → List ℕ
difference_line place = concat (decimal place.line ∷ codes ":" ∷ decimal place.column ∷ codes " not formatted\n" ∷ [])

abbrev pub difference_text : Option Position → List ℕ
difference_text None = []
difference_text (Some place) = difference_line place

-- A text was read, and the result is whether it is its own formatting. If it isn't, only the line with the position was
-- written.
pub record CompareRun (style : Style) (input before after : ByteStream) (same : Bool) : Type 0 where
  pub place : Option Position
  pub difference : Difference style input.contents place
  pub wrote : Writes before after (difference_text place)
  pub answer : same ≡ is_none place

-- The text has no fixable finding.
abbrev pub IsClean : Style → List ℕ → Type 0
IsClean style text = IsMended text style

-- A text was read that is not its own formatting, but the writer failed, and a prefix of the line was written.
pub record BrokeOffDifference (style : Style) (input before after : ByteStream) : Type 0 where
  pub place : Position
  pub difference : Difference style input.contents (Some place)
  pub broke : BreaksOff before after (difference_line place)

-- why the run that compares is refused
abbrev pub RefusedCompare : Style → ByteStream → ByteStream → ByteStream → ByteStream → Fault → Type 0
RefusedCompare style input left before after fault =
    RefusedRun (BrokeOffDifference style input before after) input left before after fault
