-- Consequences of the definitions.
use Rattle.std.specs.Prelude.{◌≡◌, ℕ, ◌-◌, ◌<◌, ◌≤◌, false, List, length, sum_by, take, drop}
use Rattle.std.specs.Str.{IsCharBoundary, IsUtf8, chars}
use Rattle.yf_positions.specs.declared.encoding.Encoding.{Encoding}
use Rattle.yf_positions.specs.declared.position.LspPosition.{LspPosition}
use Rattle.yf_positions.specs.Units.{char_units}
use Rattle.yf_positions.specs.Lines.{inside_break, line_start, lines_before, IsUnbroken}
use Rattle.yf_positions.specs.Offsets.{column_at, offset_of, position_of}

-- The position of an offset leads back to it, if the offset is between two characters and not inside a CR LF.
abbrev pub PositionsInvert : Type 0
PositionsInvert = (e : Encoding) (t : List ℕ) (i : ℕ) → IsCharBoundary t i → inside_break t i ≡ false
    → offset_of e t (position_of e t i) ≡ i

-- Any position's offset is such an offset.
abbrev pub OffsetsInvert : Type 0
OffsetsInvert = (e : Encoding) (t : List ℕ) (p : LspPosition)
    → offset_of e t (position_of e t (offset_of e t p)) ≡ offset_of e t p

-- A column is the number of units of the characters from the line's start to the offset.
abbrev pub ColumnsCount : Type 0
ColumnsCount = (e : Encoding) (t : List ℕ) (start i : ℕ) → IsUtf8 t → IsCharBoundary t start → IsCharBoundary t i
    → IsUnbroken t start i → column_at e t start i ≡ sum_by (char_units e) (chars (take (i - start) (drop start t)))

-- The offset of a position: the last one in the position's line that is between two characters, not inside a CR LF, and
-- at most the position's number of units after the line's start.
pub record IsOffsetOf (e : Encoding) (t : List ℕ) (p : LspPosition) (offset : ℕ) : Type 0 where
  pub boundary : IsCharBoundary t offset
  pub apart : inside_break t offset ≡ false
  pub line : lines_before t offset ≡ p.line
  pub column : column_at e t (line_start t p.line) offset ≤ p.character
  pub last : (i : ℕ) → IsCharBoundary t i → inside_break t i ≡ false → lines_before t i ≡ p.line
      → column_at e t (line_start t p.line) i ≤ p.character → i ≤ offset

abbrev pub OffsetsAreExact : Type 0
OffsetsAreExact = (e : Encoding) (t : List ℕ) (p : LspPosition) → p.line ≤ lines_before t (length t)
    → IsOffsetOf e t p (offset_of e t p)

-- A position in a line that the text does not have is the end of the text.
abbrev pub LaterLinesAreEnd : Type 0
LaterLinesAreEnd = (e : Encoding) (t : List ℕ) (p : LspPosition) → lines_before t (length t) < p.line
    → offset_of e t p ≡ length t
