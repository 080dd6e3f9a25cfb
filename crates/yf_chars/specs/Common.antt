-- Texts of ASCII characters that double quotes hold unescaped: all printable ones except " and \
use Rattle.std.specs.Prelude.{◌≡◌, ℕ, ◌<◌, Bool, true, ◌||◌, List, length, slice_index}
use Rattle.yf_chars.specs.Class.{is_between}

unfoldable pub is_common : ℕ → Bool
is_common c = is_between 0x5D 0x7E c || is_between 0x23 0x5B c || is_between 0x20 0x21 c

abbrev pub AreCommon : List ℕ → Type 0
AreCommon t = (k : ℕ) → k < length t → is_common (slice_index t k) ≡ true
