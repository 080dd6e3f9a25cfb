-- Lists of patterns.
use Rattle.std.specs.Prelude.{ℕ, zero, suc, List, [], ◌∷◌}
use Rattle.yf_excludes.specs.declared.pattern.Pattern.{Pattern}
use Rattle.yf_excludes.specs.Paths.{Lent}
use Rattle.yf_excludes.specs.Segments.{PatternOf}

-- a pattern for each text
pub data ArePatterns : List Lent → List Pattern → Type 0 where
  no_text : ArePatterns [] []
  one_text : {t : Lent} {p : Pattern} {ts : List Lent} {ps : List Pattern} → PatternOf t.now p → ArePatterns ts ps
      → ArePatterns (t ∷ ts) (p ∷ ps)

-- the first text that is not a pattern, counted from 0
pub data FirstBad : List Lent → ℕ → Type 0 where
  bad_here : {t : Lent} {ts : List Lent} → ((p : Pattern) → ¬ (PatternOf t.now p)) → FirstBad (t ∷ ts) zero
  bad_later : {t : Lent} {p : Pattern} {ts : List Lent} {n : ℕ} → PatternOf t.now p → FirstBad ts n
      → FirstBad (t ∷ ts) (suc n)
