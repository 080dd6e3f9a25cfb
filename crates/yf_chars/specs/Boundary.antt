-- Boundaries: byte offsets between characters, and at both ends of a text.
use Rattle.std.specs.Prelude.{ℕ, ◌≤◌, List}
use Rattle.std.specs.Str.{IsCharBoundary}

-- a boundary at or after an offset
pub record BoundaryFrom (t : List ℕ) (at p : ℕ) : Type 0 where
  pub boundary : IsCharBoundary t p
  pub order : at ≤ p
