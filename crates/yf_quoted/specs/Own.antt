-- Characters that double quotes hold unescaped, and runs of them.
use Rattle.std.specs.Prelude.{◌≡◌, ℕ, List, [], ◌∷◌, ◌++◌, chars, drop, flat_map, slice_range, encode_utf8_all}
use Rattle.yf_chars.specs.Text.{code, CharAt}
use Rattle.yf_chars.specs.Escape.{spelled}

-- a character from i to j that is written as itself
pub record OwnAt (t : List ℕ) (i j : ℕ) : Type 0 where
  pub reads : CharAt t i (code t i) j
  pub self : spelled (code t i) ≡ code t i ∷ []

-- characters from i to j that are written as themselves
pub record OwnRun (t : List ℕ) (i j : ℕ) : Type 0 where
  pub text : List ℕ
  pub self : flat_map spelled text ≡ text
  pub bytes : slice_range t i j ≡ encode_utf8_all text
  pub rest : chars (drop i t) ≡ text ++ chars (drop j t)
