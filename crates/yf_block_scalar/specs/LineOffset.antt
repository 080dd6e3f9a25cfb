-- The byte offset of a line of a text.
use Rattle.std.specs.Prelude.{ℕ, length, slice_get, Option, Some, None}
use Rattle.yf_lines.specs.Lines.{Table}
use Rattle.yf_lines.specs.declared.line.Line.{Line}

abbrev pub start_or : ℕ → Option Line → ℕ
start_or end None = end
start_or end (Some l) = l.start

-- the byte offset of the line of that index, from 0; after the last line, the end of the text
abbrev pub line_offset : Table → ℕ → ℕ
line_offset t i = start_or (length t.text) (slice_get t.lines i)
