-- How a message shows a text from elsewhere: each control character by its number, so that no control character reaches
-- a terminal.
use Rattle.std.specs.Prelude.{ℕ, ◌+◌, ◌/◌, ◌%◌, nat_lt, nat_eq, List, [], ◌∷◌, ◌++◌, if◌then◌else◌}

-- A hexadecimal digit in upper case.
abbrev pub shown_digit : ℕ → ℕ
shown_digit n = if nat_lt n 10 then 48 + n else 55 + n

-- `\x` and two hexadecimal digits.
abbrev pub shown_number : ℕ → List ℕ
shown_number n = 92 ∷ 120 ∷ shown_digit (n / 16) ∷ shown_digit (n % 16) ∷ []

-- The bytes that show a byte, given the byte before it. The control characters are those below x20, x7F, and those from
-- x80 to x9F, which take two bytes: xC2 and their number. A byte xC2 is shown with the byte after it.
abbrev pub shown_byte : ℕ → ℕ → List ℕ
shown_byte before b =
    if nat_lt b 32 then shown_number b
    else if nat_eq b 127 then shown_number b
    else if nat_eq b 194 then []
    else if nat_eq before 194 then (if nat_lt b 160 then shown_number b else before ∷ b ∷ [])
    else b ∷ []

-- The bytes that show a text after another byte.
abbrev pub shown_after : ℕ → List ℕ → List ℕ
shown_after before [] = []
shown_after before (b ∷ rest) = shown_byte before b ++ shown_after b rest

-- The bytes that show a text.
abbrev pub shown : List ℕ → List ℕ
shown bytes = shown_after 0 bytes
