-- The units of a character, and those of a byte: the first byte of a character counts for all its units.
use Rattle.std.specs.Prelude.{ℕ, Bool, ◌==◌, ◌||◌, ◌&&◌, nat_lt, nat_le, if◌then◌else◌}
use Rattle.std.specs.Char.{len_utf8}
use Rattle.yf_positions.specs.declared.encoding.Encoding.{Encoding}
use Rattle.yf_positions.specs.declared.encoding.Encoding.TheVariants.{Utf8, Utf16, Utf32}

-- the number of code units of a character in the encoding
abbrev pub char_units : Encoding → ℕ → ℕ
char_units Utf8 c = len_utf8 c
char_units Utf16 c = if nat_lt c 0x10000 then 1 else 2
char_units Utf32 c = 1

-- the units of a character above U+007F, by its first byte in UTF-8
abbrev pub lead_units : Encoding → ℕ → ℕ
lead_units Utf8 b = if nat_lt b 224 then 2 else (if nat_lt b 240 then 3 else 4)
lead_units Utf16 b = if nat_lt b 240 then 1 else 2
lead_units Utf32 b = 1

-- 0 for a byte that continues a character
abbrev pub byte_units : Encoding → ℕ → ℕ
byte_units e b = if nat_lt b 128 then 1 else (if nat_lt b 192 then 0 else lead_units e b)

-- a line feed or a carriage return
abbrev pub is_break : ℕ → Bool
is_break b = b == 10 || b == 13

-- the byte continues a character
abbrev pub continues : ℕ → Bool
continues b = nat_le 128 b && nat_lt b 192
