-- Open brackets.
use Rattle.std.specs.Prelude.{ℕ, List, ◌≤◌, Result, MatchResult}
use Rattle.yf_diagnose.specs.SecondReadings.{IsAfter, NotBefore}
use Rattle.yf_diagnose.specs.declared.leaves.Held.{Held}
use Rattle.yf_diagnose.specs.declared.leaves.Held.TheVariants.{Content, Empty}
use Rattle.yf_diagnose.specs.declared.diagnosis.Mistake.{Mistake}

-- at least one bracket is open, and at most 1,024 are
abbrev pub IsOpen : ℕ → Type 0
IsOpen count = (1 ≤ count) × (count ≤ 1024)

-- the content is not before the offset; or, without content, the properties end after it
abbrev pub IsHeld : List ℕ → ℕ → Held → Type 0
IsHeld t at (Content content) = NotBefore t at content
IsHeld t at (Empty end) = IsAfter t at end

abbrev pub HeldAt : List ℕ → ℕ → Result Held Mistake → Type 0
HeldAt t at answer = MatchResult answer (IsHeld t at) (λ d. NotBefore t at d.at)
