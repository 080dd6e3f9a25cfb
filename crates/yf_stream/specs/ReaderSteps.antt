-- The facts between two steps of the reader of streams: its offsets are between characters, and less of the text is
-- left after each step.
use Rattle.std.specs.Prelude.{ℕ, List}
use Rattle.std.specs.Str.{IsCharBoundary}
use Rattle.yf_chars.specs.Boundary.{BoundaryFrom}
use Rattle.yf_stream.specs.declared.documents.StreamStep.{StreamStep}
use Rattle.yf_stream.specs.declared.documents.StreamStep.TheVariants.{Go, Syntax, TooDeep}

-- the reading goes on at the offset or after it, or stops between characters
abbrev pub NextAt : List ℕ → ℕ → StreamStep → Type 0
NextAt t at (Go cursor) = BoundaryFrom t at cursor.at × IsCharBoundary t cursor.reached
NextAt t at (Syntax place) = IsCharBoundary t place
NextAt t at (TooDeep place) = IsCharBoundary t place
