-- The tests of texts agree with the relation between patterns and texts.
use Rattle.std.specs.Prelude.{◌≡◌, ℕ, true, List}
use Rattle.yf_lines.specs.CoreSchema.{Pattern, Matches}
use Rattle.yf_types.specs.Tests.{is_match}

pub record IsDecided (p : Pattern) (t : List ℕ) : Type 0 where
  pub sound : is_match p t ≡ true → Matches p t
  pub complete : Matches p t → is_match p t ≡ true
