-- Escapes of double-quoted scalars (YAML 1.2.2, section 5.7), and how this project writes a character in double quotes.
use Rattle.std.specs.Prelude.{◌≡◌, ℕ, zero, suc, ◌+◌, ◌-◌, ◌*◌, ◌/◌, ◌%◌, ◌<◌, Bool, true, false, ◌==◌, ◌||◌, List, [], ◌∷◌, ◌++◌, Option, Some, None, if◌then◌else◌, nat_lt}
use Rattle.std.specs.Char.{digit_value}
use Rattle.yf_chars.specs.Signs.{BACKSLASH, BYTE_ORDER_MARK, CARRIAGE_RETURN, DOUBLE_QUOTE, LINE_FEED, SLASH, SPACE, TAB, UNDERSCORE}
use Rattle.yf_chars.specs.Text.{code}
use Rattle.yf_chars.specs.Class.{is_between}

-- the meaning of a single letter after the backslash
unfoldable pub named : ℕ → Option ℕ
named c =
    if c == 48 then Some 0x00 else
    if c == 97 then Some 0x07 else
    if c == 98 then Some 0x08 else
    if (c == 116) || (c == TAB) then Some 0x09 else
    if c == 110 then Some 0x0A else
    if c == 118 then Some 0x0B else
    if c == 102 then Some 0x0C else
    if c == 114 then Some 0x0D else
    if c == 101 then Some 0x1B else
    if c == SPACE then Some SPACE else
    if c == DOUBLE_QUOTE then Some DOUBLE_QUOTE else
    if c == SLASH then Some SLASH else
    if c == BACKSLASH then Some BACKSLASH else
    if c == 78 then Some 0x85 else
    if c == UNDERSCORE then Some 0xA0 else
    if c == 76 then Some 0x2028 else
    if c == 80 then Some 0x2029 else None

-- the number that k hexadecimal digits from i write
unfoldable pub number : List ℕ → ℕ → ℕ → ℕ
number t i zero = 0
number t i (suc k) = number t i k * 16 + digit_value (code t (i + k))

-- k hexadecimal digits from i, which write v
pub record Digits (t : List ℕ) (i k v : ℕ) : Type 0 where
  pub each : (m : ℕ) → m < k → digit_value (code t (i + m)) < 16
  pub value : number t i k ≡ v

-- a backslash, the letter c and k hexadecimal digits, which write v
pub record NumericEscape (t : List ℕ) (i c k v : ℕ) : Type 0 where
  pub backslash : code t i ≡ BACKSLASH
  pub letter : code t (i + 1) ≡ c
  pub digits : Digits t (i + 2) k v

-- the two halves of a pair, which means one character above U+FFFF
unfoldable pub is_high : ℕ → Bool
is_high v = is_between 0xD800 0xDBFF v

unfoldable pub is_low : ℕ → Bool
is_low v = is_between 0xDC00 0xDFFF v

unfoldable pub joined : ℕ → ℕ → ℕ
joined high low = 0x10000 + (high - 0xD800) * 0x400 + (low - 0xDC00)

-- no low half with \u is at i
pub record NoLow (t : List ℕ) (i : ℕ) : Type 0 where
  pub none : (v : ℕ) → NumericEscape t i 117 4 v → is_low v ≡ true → ⊥

-- c-ns-esc-char: the escape from i to j means the number v. A high half with \u and a low half with \u directly after
-- it are one escape.
pub data Escape (t : List ℕ) : ℕ → ℕ → ℕ → Type 0 where
  by_letter : {i v : ℕ} → code t i ≡ BACKSLASH → named (code t (i + 1)) ≡ Some v → Escape t i (i + 2) v
  by_two : {i v : ℕ} → NumericEscape t i 120 2 v → Escape t i (i + 4) v
  by_four : {i v : ℕ} → NumericEscape t i 117 4 v → is_high v ≡ false → Escape t i (i + 6) v
  by_half : {i v : ℕ} → NumericEscape t i 117 4 v → is_high v ≡ true → NoLow t (i + 6) → Escape t i (i + 6) v
  by_pair : {i v w : ℕ} → NumericEscape t i 117 4 v → is_high v ≡ true → NumericEscape t (i + 6) 117 4 w → is_low w ≡ true
      → Escape t i (i + 12) (joined v w)
  by_eight : {i v : ℕ} → NumericEscape t i 85 8 v → Escape t i (i + 10) v

-- the digit in upper case
unfoldable pub upper_digit : ℕ → ℕ
upper_digit d = if nat_lt d 10 then 48 + d else 55 + d

-- the letter of the shortest escape, if this project writes the character by one
unfoldable pub short_name : ℕ → Option ℕ
short_name c =
    if c == DOUBLE_QUOTE then Some DOUBLE_QUOTE else
    if c == BACKSLASH then Some BACKSLASH else
    if c == LINE_FEED then Some 110 else
    if c == TAB then Some 116 else
    if c == CARRIAGE_RETURN then Some 114 else
    if c == 0 then Some 48 else None

-- characters that are written with two digits: those below a space and from U+007F to U+00A0 that have no letter
unfoldable pub is_by_two : ℕ → Bool
is_by_two c = is_between 0 31 c || is_between 127 160 c

-- characters that are written with four digits: the separators of lines and paragraphs, the byte order mark, and two
-- that are not printable
unfoldable pub is_by_four : ℕ → Bool
is_by_four c = (c == 0x2028) || (c == 0x2029) || (c == BYTE_ORDER_MARK) || (c == 0xFFFE) || (c == 0xFFFF)

unfoldable pub two_digits : ℕ → List ℕ
two_digits v = upper_digit (v / 16) ∷ upper_digit (v % 16) ∷ []

unfoldable pub spelled_long : ℕ → List ℕ
spelled_long c =
    if is_by_two c then BACKSLASH ∷ 120 ∷ two_digits c else
    if is_by_four c then BACKSLASH ∷ 117 ∷ two_digits (c / 256) ++ two_digits (c % 256)
    else c ∷ []

unfoldable pub spelled_by : Option ℕ → ℕ → List ℕ
spelled_by (Some letter) c = BACKSLASH ∷ letter ∷ []
spelled_by None c = spelled_long c

-- a character as it is written in double quotes
unfoldable pub spelled : ℕ → List ℕ
spelled c = spelled_by (short_name c) c

-- a character as an escape of its number: with four digits, above U+FFFF with eight
unfoldable pub by_number : ℕ → List ℕ
by_number c =
    if nat_lt c 0x10000 then BACKSLASH ∷ 117 ∷ two_digits (c / 256) ++ two_digits (c % 256)
    else BACKSLASH ∷ 85 ∷ two_digits 0 ++ (two_digits (c / 65536) ++ (two_digits (c / 256 % 256) ++ two_digits (c % 256)))
