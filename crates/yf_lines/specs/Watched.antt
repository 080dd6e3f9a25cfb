-- The effect of a call on the failure note of a reader or a writer.
use Rattle.std.specs.Prelude.{◌≡◌, ℕ, ◌<◌, List, length, Bool, true, MatchResult, Result}
use Rattle.yf_lines.specs.declared.watched.Watched.{Watched}

-- a read or a flush: a failure sets the note; otherwise the note is unchanged
abbrev pub Notes : {A E : Type 0} → Bool → Bool → Result A E → Type 0
Notes old new outcome = MatchResult outcome (λ _. new ≡ old) (λ _. new ≡ true)

-- a write took none of its bytes
abbrev pub TakesNone : ℕ → List ℕ → Type 0
TakesNone count bytes = (count ≡ 0) × (0 < length bytes)

-- a write: a failure, or taking none of its bytes, sets the note; otherwise the note is unchanged
abbrev pub WriteNotes : {E : Type 0} → Bool → Bool → Result ℕ E → List ℕ → Type 0
WriteNotes old new outcome bytes = MatchResult outcome
    (λ count. (TakesNone count bytes → new ≡ true) × (¬ TakesNone count bytes → new ≡ old))
    (λ _. new ≡ true)

-- the watched reader or writer
abbrev pub watched_inner : {T : Type 0} → Watched T → T
watched_inner watched = watched.inner

-- whether a call of it has failed
abbrev pub watched_failed : {T : Type 0} → Watched T → Bool
watched_failed watched = watched.failed
