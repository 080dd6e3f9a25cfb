-- Faults of the readers of double-quoted scalars.
use Rattle.std.specs.Prelude.{◌≡◌, ℕ, ℤ, List, ◌∷◌}
use Rattle.yf_chars.specs.declared.context.Ctx.{Ctx}
use Rattle.yf_chars.specs.Chain.{Chosen}
use Rattle.yf_lines.specs.declared.fault.Fault.{Fault}
use Rattle.yf_lines.specs.declared.fault.Fault.TheVariants.{EscapeValue, Memory}
use Rattle.yf_lines.specs.declared.place.Position.{Position}
use Rattle.yf_lines.specs.Lines.{PlaceOf}
use Rattle.yf_quoted.specs.Quoted.{DoubleQuoted, Piece, bad_escapes}

-- a fault of a reader: the position of the first bad escape in the longest part, or refused memory
pub data DoubleFault (t : List ℕ) (n : ℤ) (c : Ctx) (i : ℕ) : Fault → Type 0 where
  for_escape : {j b : ℕ} {more : List ℕ} {x : List Piece} {place : Position} → Chosen (DoubleQuoted t n c i) j x → bad_escapes x ≡ b ∷ more → PlaceOf t b place.line place.column
      → DoubleFault t n c i (EscapeValue place)
  for_memory : DoubleFault t n c i Memory
