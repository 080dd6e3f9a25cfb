-- Positions and offsets.
use Rattle.std.specs.Prelude.{ℕ, zero, suc, ◌+◌, ◌-◌, ◌||◌, nat_lt, min, List, [], ◌∷◌, length, drop, slice_index, if◌then◌else◌}
use Rattle.yf_positions.specs.declared.encoding.Encoding.{Encoding}
use Rattle.yf_positions.specs.declared.position.LspPosition.{LspPosition}
use Rattle.yf_positions.specs.Units.{byte_units, is_break, continues}
use Rattle.yf_positions.specs.Lines.{lines_before, line_start}

-- the units of the first i bytes, without those from a break on
abbrev pub units_before : Encoding → List ℕ → ℕ → ℕ
units_before e [] i = 0
units_before e (c ∷ t) zero = 0
units_before e (c ∷ t) (suc i) = if is_break c then 0 else (byte_units e c + units_before e t i)

-- the number of bytes of the longest front of whole characters that is before a break and has at most k units
abbrev pub bytes_within : Encoding → List ℕ → ℕ → ℕ
bytes_within e [] k = 0
bytes_within e (c ∷ t) k = if is_break c || nat_lt k (byte_units e c) then 0 else suc
    (bytes_within e t (k - byte_units e c))

-- the start of the character with the byte at i, or i itself at the end of the text
abbrev pub character_start : List ℕ → ℕ → ℕ
character_start t zero = 0
character_start t (suc i) = if continues (slice_index t (suc i)) then character_start t i else suc i

-- the units from the start of its line to an offset
abbrev pub column_at : Encoding → List ℕ → ℕ → ℕ → ℕ
column_at e t start i = units_before e (drop start t) (i - start)

-- the position of an offset between two characters
abbrev pub position_at : Encoding → List ℕ → ℕ → LspPosition
position_at e t i = record { line = lines_before t i; character = column_at e t (line_start t (lines_before t i)) i }

-- The position of any offset. An offset inside a character has the position of the character's start, and one after the
-- end of the text has that of the end.
abbrev pub position_of : Encoding → List ℕ → ℕ → LspPosition
position_of e t i = position_at e t (character_start t (min i (length t)))

-- the offset k units after the start of a line, but at most the line's end
abbrev pub offset_in : Encoding → List ℕ → ℕ → ℕ → ℕ
offset_in e t start k = start + bytes_within e (drop start t) k

-- The offset of a position. A position after the end of its line is the line's end, one inside a character is the
-- character's start, and one in a line that the text does not have is the end of the text.
abbrev pub offset_of : Encoding → List ℕ → LspPosition → ℕ
offset_of e t p = offset_in e t (line_start t p.line) p.character
