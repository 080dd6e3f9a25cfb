-- The effect of a run over some lines, by the bytes that its reader gave.
-- (input: the reader before the run; before, after: the writer; same: the result of the run)
use Rattle.std.specs.Prelude.{ℕ, Bool, List}
use Rattle.yf_forms.specs.declared.style.Style.{Style}
use Rattle.yf_rules.specs.Runs.ByteStream.{ByteStream}
use Rattle.yf_rules.specs.Runs.Run.{Gave}
use Rattle.yf_parts.specs.PartKept.{PartKept}
use Rattle.yf_parts.specs.Shown.{IsShown, ShowBroke}
use Rattle.yf_line_ranges.specs.declared.range.LineRange.{LineRange}
use Rattle.yf_parts.specs.declared.hunks.Hunk.{Hunk}
use Rattle.yf_parts.specs.declared.run.PartTask.{PartTask}

-- v is t with these lines formatted, and `PartKept` holds of the two.
abbrev pub IsPart : Style → List LineRange → List ℕ → List ℕ → Type 0
IsPart style lines t v = (hunks : List Hunk) × (applied : List Bool) × PartKept t style lines hunks applied v

-- A text was read, and the text with the lines formatted was shown.
pub record PartRun (task : PartTask) (name : List ℕ) (style : Style) (input before after : ByteStream) (same : Bool)
    : Type 0 where
  pub text : List ℕ
  pub part : List ℕ
  pub gave : Gave input.contents text
  pub of_text : IsPart style task.lines.items text part
  pub shown : IsShown task.show name text part before after same

-- A text was read, but the writer failed after a prefix of the output.
pub record PartBroke (task : PartTask) (name : List ℕ) (style : Style) (input before after : ByteStream) : Type 0 where
  pub text : List ℕ
  pub part : List ℕ
  pub gave : Gave input.contents text
  pub of_text : IsPart style task.lines.items text part
  pub broke : ShowBroke task.show name text part before after
