-- How characters are shown: some as they are, all others by their numbers. Those shown as they are take one or two
-- columns and run from left to right, whatever is beside them. None is a control character, and none changes the
-- direction of a line, joins another character or is invisible.
use Rattle.std.specs.Prelude.{◌≡◌, ℕ, ◌+◌, ◌/◌, ◌%◌, Bool, true, nat_eq, nat_lt, nat_le, ◌&&◌, ◌||◌, List, [], ◌∷◌, ◌++◌, sum_by, if◌then◌else◌}
use Rattle.std.specs.List.{flat_map, list_all}

abbrev pub is_between : ℕ → ℕ → ℕ → Bool
is_between low high c = nat_le low c && nat_le c high

-- characters of one column: ASCII from the space on; Latin, Greek and Cyrillic letters and their signs, except the soft
-- hyphen; dashes and quotes
abbrev pub is_narrow : ℕ → Bool
is_narrow c = is_between 0x20 0x7E c || is_between 0xA1 0xAC c || is_between 0xAE 0x2FF c || is_between 0x391 0x3A1 c || is_between 0x3A3 0x482 c
    || is_between 0x48A 0x52F c || is_between 0x2010 0x2027 c || is_between 0x2030 0x205E c

-- characters of two columns: Hiragana, Katakana, Chinese characters and Hangul
abbrev pub is_wide : ℕ → Bool
is_wide c = is_between 0x3041 0x3096 c || is_between 0x30A1 0x30FA c || is_between 0x4E00 0x9FFF c || is_between 0xAC00 0xD7A3 c

abbrev pub is_visible : ℕ → Bool
is_visible c = is_narrow c || is_wide c

-- characters of a page: line feeds, and characters that are shown as they are
abbrev pub is_written : ℕ → Bool
is_written c = nat_eq c 10 || is_visible c

-- a hexadecimal digit in upper case, and the two digits of a byte
abbrev pub digit : ℕ → ℕ
digit n = if nat_lt n 10 then 48 + n else 55 + n

abbrev pub digits : ℕ → List ℕ
digits byte = digit (byte / 16) ∷ digit (byte % 16) ∷ []

-- a character by its number, as an escape of double quotes: `\x` and two digits, `\u` and four, `\U` and eight
abbrev pub number : ℕ → List ℕ
number c =
    if nat_lt c 0x100 then 92 ∷ 120 ∷ digits c
    else if nat_lt c 0x10000 then 92 ∷ 117 ∷ digits (c / 256) ++ digits (c % 256)
    else 92 ∷ 85 ∷ 48 ∷ 48 ∷ digits (c / 65536) ++ digits (c / 256 % 256) ++ digits (c % 256)

-- a character as it is shown
unfoldable pub shown : ℕ → List ℕ
shown c = if is_visible c then c ∷ [] else number c

-- the width in columns of a shown character
unfoldable pub columns_of : ℕ → ℕ
columns_of c =
    if is_wide c then 2
    else if is_narrow c then 1
    else if nat_lt c 0x100 then 4
    else if nat_lt c 0x10000 then 6
    else 10

-- characters as they are shown, and their width in columns
abbrev pub all_shown : List ℕ → List ℕ
all_shown cs = flat_map shown cs

abbrev pub columns : List ℕ → ℕ
columns cs = sum_by columns_of cs

-- only line feeds and characters that are shown as they are
abbrev pub AreWritten : List ℕ → Type 0
AreWritten cs = list_all is_written cs ≡ true
