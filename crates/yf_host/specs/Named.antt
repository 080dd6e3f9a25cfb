-- The output for one file among several. A diff has the file's name in its first lines. Any other line begins with the
-- name and a colon, and a space follows if the line doesn't begin with a position.
use Rattle.std.specs.Prelude.{ℕ, nat_eq, nat_lt, Bool, false, List, [], ◌∷◌, ◌++◌, if◌then◌else◌}
use Rattle.yf_lines.specs.Shown.{shown}

-- the first byte of a line: a position begins with a digit, and any other byte gets a space before it
abbrev pub first_byte : ℕ → List ℕ
first_byte b = if nat_lt b 48 then 32 ∷ b ∷ [] else if nat_lt 57 b then 32 ∷ b ∷ [] else b ∷ []

-- a byte after another byte: at the start of a line the prefix comes before it
abbrev pub prefixed_byte : List ℕ → ℕ → ℕ → List ℕ
prefixed_byte prefix before b = if nat_eq before 10 then prefix ++ first_byte b else b ∷ []

-- a text after another byte
abbrev pub prefixed : List ℕ → ℕ → List ℕ → List ℕ
prefixed prefix before [] = []
prefixed prefix before (b ∷ rest) = prefixed_byte prefix before b ++ prefixed prefix b rest

-- a whole text, which starts at the beginning of a line
abbrev pub named_lines : List ℕ → List ℕ → List ℕ
named_lines name text = prefixed (shown name ++ 58 ∷ []) 10 text

-- Whether an output is a diff. A diff begins with `-`. Any other output of a run over several files is empty, or begins
-- with a position.
abbrev pub is_diff : List ℕ → Bool
is_diff [] = false
is_diff (b ∷ rest) = nat_eq b 45

-- what is written to the output: a diff as it is, and any other output with the name before each line
abbrev pub named_output : List ℕ → List ℕ → List ℕ
named_output name output = if is_diff output then output else named_lines name output
