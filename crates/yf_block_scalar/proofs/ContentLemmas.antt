-- The first byte of a line.
use Rattle.std.proofs.Common.{◌≡◌, ℕ, false, true≢false, List, [], ◌∷◌, length, get_or, refl, eqb}
use Rattle.yf_chars.specs.Class.{is_white}
use Rattle.yf_block_scalar.specs.Content.{is_spaced}

pub spaced_first : (x : List ℕ) → eqb (length x) 0 ≡ false → is_spaced x ≡ is_white (get_or x 0 0)
spaced_first [] e = absurd (true≢false e)
spaced_first (c ∷ x) e = refl
