-- The results of a second reading.
use Rattle.std.specs.Prelude.{ℕ, List, ◌<◌, ◌≤◌, Result, MatchResult}
use Rattle.std.specs.Str.{IsCharBoundary}
use Rattle.yf_chars.specs.Chain.{Many}
use Rattle.yf_chars.specs.Class.{is_white}
use Rattle.yf_diagnose.specs.declared.diagnosis.Mistake.{Mistake}
use Rattle.yf_diagnose.specs.declared.diagnosis.Diagnosis.{Diagnosis}

-- i is a boundary that is not before `at`
abbrev pub NotBefore : List ℕ → ℕ → ℕ → Type 0
NotBefore t at i = IsCharBoundary t i × (at ≤ i)

-- i is a boundary after `at`
abbrev pub IsAfter : List ℕ → ℕ → ℕ → Type 0
IsAfter t at i = IsCharBoundary t i × (at < i)

-- a reading from `at` ends after it, or is refused at a boundary that is not before it
abbrev pub IsReadAfter : List ℕ → ℕ → Result ℕ Mistake → Type 0
IsReadAfter t at answer = MatchResult answer (IsAfter t at) (λ d. NotBefore t at d.at)

-- a reading from `at` ends at it or after it, or is refused at a boundary that is not before it
abbrev pub IsReadFrom : List ℕ → ℕ → Result ℕ Mistake → Type 0
IsReadFrom t at answer = MatchResult answer (NotBefore t at) (λ d. NotBefore t at d.at)

-- the refused part begins at a boundary that is not after the sign, and the diagnosis is at a boundary that is not
-- before that
abbrev pub IsDiagnosed : List ℕ → ℕ → Diagnosis → Type 0
IsDiagnosed t sign diagnosis = IsCharBoundary t diagnosis.from × (diagnosis.from ≤ sign) × NotBefore t diagnosis.from diagnosis.at

-- the sign of the diagnosis has only white space between it and `stop`
abbrev pub IsDiagnosis : List ℕ → ℕ → Diagnosis → Type 0
IsDiagnosis t stop diagnosis = (sign : ℕ) × ((x : List ℕ) × Many t is_white stop sign x) × IsDiagnosed t sign diagnosis
