-- A text is the list of its bytes, and a byte offset locates a character. The words below hide UTF-8 from everything
-- above: the character that begins at an offset, the offset after it, and the character that ends at an offset.
use Rattle.std.specs.Prelude.{◌≡◌, ℕ, ◌+◌, ◌<◌, ◌≤◌, Bool, List, [], ◌∷◌, ◌++◌, ◌&&◌, ◌||◌, nat_lt, nat_le, length, take, drop, slice_index, if◌then◌else◌, encode_utf8}
use Rattle.std.specs.Char.{len_utf8}
use Rattle.std.specs.Str.{chars, IsCharBoundary}

-- "no character": above every character
abbrev pub no_char : ℕ
no_char = 0x110000

abbrev pub first_or_none : List ℕ → ℕ
first_or_none [] = no_char
first_or_none (c ∷ cs) = c

abbrev pub last_or : ℕ → List ℕ → ℕ
last_or d [] = d
last_or d (c ∷ cs) = last_or c cs

-- whether a character begins at the offset: the byte there doesn't continue a character
unfoldable pub begins : List ℕ → ℕ → Bool
begins t i = nat_lt i (length t) && (nat_lt (slice_index t i) 128 || nat_le 192 (slice_index t i))

-- the character that begins at the offset, or no_char at the end, past it, and inside a character
unfoldable pub code : List ℕ → ℕ → ℕ
code t i = if begins t i then first_or_none (chars (drop i t)) else no_char

-- the offset after the character that begins at the offset
unfoldable pub next : List ℕ → ℕ → ℕ
next t i = i + len_utf8 (code t i)

-- the character that ends at the offset, or no_char if none does
unfoldable pub before : List ℕ → ℕ → ℕ
before t i = last_or no_char (chars (take i t))

-- the character c is from i to j
pub record CharAt (t : List ℕ) (i c j : ℕ) : Type 0 where
  pub char : code t i ≡ c
  pub end : next t i ≡ j
  pub back : before t j ≡ c
  pub later : i < j
  pub within : j ≤ length t
  pub boundary : IsCharBoundary t j
  pub below : c < 0x110000
  pub bytes : take j t ≡ take i t ++ encode_utf8 c
