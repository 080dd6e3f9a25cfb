-- A character written in double quotes is read again, in any text.
use Rattle.std.specs.Prelude.{◌≡◌, ◌≢◌, ℕ, ◌+◌, true, List, ◌++◌, drop, length}
use Rattle.std.specs.Str.{IsUtf8, IsCharBoundary}
use Rattle.yf_chars.specs.Signs.{BACKSLASH, DOUBLE_QUOTE}
use Rattle.yf_chars.specs.Text.{CharAt}
use Rattle.yf_chars.specs.Class.{is_nb_char}
use Rattle.yf_chars.specs.Escape.{Escape}

-- from i to j, double quotes hold the character c, as an escape or as itself
pub data SpellsChar (t : List ℕ) (c i j : ℕ) : Type 0 where
  as_escape : Escape t i j c → SpellsChar t c i j
  as_itself : CharAt t i c j → is_nb_char c ≡ true → c ≢ DOUBLE_QUOTE → c ≢ BACKSLASH → SpellsChar t c i j

-- in any text, the bytes are the character
pub record ReadsBack (bytes : List ℕ) (c : ℕ) : Type 0 where
  pub holds : (t : List ℕ) (i : ℕ) (rest : List ℕ) → IsUtf8 t → IsCharBoundary t i → drop i t ≡ bytes ++ rest → SpellsChar t c i (i + length bytes)
