-- All readings of a text as a pattern match the same paths, with the same effect.
use Rattle.std.specs.Prelude.{◌≡◌, ℕ, Bool, List}
use Rattle.yf_excludes.specs.declared.pattern.Pattern.{Pattern}
use Rattle.yf_excludes.specs.Paths.{Lent, Matches}
use Rattle.yf_excludes.specs.Segments.{PatternOf}

pub record MeansAlike (p q : Pattern) : Type 0 where
  pub negated : p.negated ≡ q.negated
  pub matches : (path : List Lent) (f : Bool) → Matches p path f → Matches q path f

abbrev pub OneMeaning : Type 0
OneMeaning = (t : List ℕ) (p q : Pattern) → PatternOf t p → PatternOf t q → MeansAlike p q
