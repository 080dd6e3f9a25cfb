-- The last offset before another that begins a line, of the lines with breaks at or after an offset.
use Rattle.std.specs.Prelude.{ℕ, ◌<◌, ◌≤◌, List, Option, Some, None}
use Rattle.yf_lines.specs.Basic.{Break}

pub record LastStart (t : List ℕ) (from end p : ℕ) : Type 0 where
  pub begins : ℕ
  pub later : from ≤ begins
  pub ended : Break t begins p
  pub earlier : p < end
  pub last : (i q : ℕ) → from ≤ i → Break t i q → q < end → q ≤ p

abbrev pub NoStart : List ℕ → ℕ → ℕ → Type 0
NoStart t from end = (i q : ℕ) → from ≤ i → Break t i q → q < end → ⊥

abbrev pub LastStartIs : List ℕ → ℕ → ℕ → Option ℕ → Type 0
LastStartIs t from end None = NoStart t from end
LastStartIs t from end (Some p) = LastStart t from end p
