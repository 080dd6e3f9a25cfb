-- A word as a pattern.
use Rattle.std.proofs.Common.{◌≡◌, ℕ, List, [], ◌∷◌, refl, ap}
use Rattle.std.specs.Prelude.{◌&&◌, ◌==◌}
use Rattle.std.specs.Str.{bytes_eq}
use Rattle.yf_lines.specs.CoreSchema.{bytes}
use Rattle.yf_types.specs.Tests.{is_match}

pub word_match : (t w : List ℕ) → bytes_eq t w ≡ is_match (bytes w) t
word_match [] [] = refl
word_match [] (b ∷ w) = refl
word_match (c ∷ t) [] = refl
word_match (c ∷ t) (b ∷ w) = ap (λ x. (c == b) && x) (word_match t w)
