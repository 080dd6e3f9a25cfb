-- Within a line: between characters of the text, and not at the start of a line.
use Rattle.std.specs.Prelude.{ℕ, List}
use Rattle.std.specs.Str.{IsCharBoundary}
use Rattle.yf_lines.specs.Basic.{LineStart}

pub record InLine (t : List ℕ) (at : ℕ) : Type 0 where
  pub boundary : IsCharBoundary t at
  pub within : LineStart t at → ⊥
