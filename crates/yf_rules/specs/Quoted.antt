-- The name of a file as Git writes it in a diff: one with a control character, a quote or a backslash is in double
-- quotes, with escapes.
use Rattle.std.specs.Prelude.{ℕ, ◌+◌, ◌/◌, ◌%◌, nat_eq, nat_lt, Bool, true, false, List, [], ◌∷◌, ◌++◌, if◌then◌else◌}

-- whether a byte after another one is a control character, a quote or a backslash; 194 comes before the control
-- characters of two bytes
abbrev pub is_special : ℕ → ℕ → Bool
is_special before b =
    if nat_lt b 32 then true
    else if nat_eq b 34 then true
    else if nat_eq b 92 then true
    else if nat_eq b 127 then true
    else if nat_eq before 194 then nat_lt b 160
    else false

-- whether a name has such a byte, after another byte
abbrev pub has_special : ℕ → List ℕ → Bool
has_special before [] = false
has_special before (b ∷ rest) = if is_special before b then true else has_special b rest

-- an octal digit
abbrev pub octal : ℕ → ℕ
octal n = 48 + n % 8

-- the letter of a control character from 7 to 13
abbrev pub letter : ℕ → ℕ
letter b =
    if nat_eq b 7 then 97
    else if nat_eq b 8 then 98
    else if nat_eq b 9 then 116
    else if nat_eq b 10 then 110
    else if nat_eq b 11 then 118
    else if nat_eq b 12 then 102
    else 114

-- a byte as a backslash and three octal digits
abbrev pub by_number : ℕ → List ℕ
by_number b = 92 ∷ octal (b / 64) ∷ octal (b / 8) ∷ octal b ∷ []

-- a byte between quotes
abbrev pub escaped : ℕ → List ℕ
escaped b =
    if nat_lt b 7 then by_number b
    else if nat_lt b 14 then 92 ∷ letter b ∷ []
    else if nat_lt b 32 then by_number b
    else if nat_lt 126 b then by_number b
    else if nat_eq b 34 then 92 ∷ b ∷ []
    else if nat_eq b 92 then 92 ∷ b ∷ []
    else b ∷ []

abbrev pub all_escaped : List ℕ → List ℕ
all_escaped [] = []
all_escaped (b ∷ rest) = escaped b ++ all_escaped rest

-- the name
abbrev pub quoted : List ℕ → List ℕ
quoted name = if has_special 0 name then 34 ∷ all_escaped name ++ 34 ∷ [] else name
