-- Packed lines of a table, and their lines in a text t. e is the offset after all of them.
use Rattle.std.specs.Prelude.{◌≡◌, ℕ, zero, suc, ◌-◌, ◌<◌, ◌≤◌, ◌==◌, if◌then◌else◌, List, [], ◌∷◌, slice_get, Some}
use Rattle.yf_chars.specs.Signs.{CARRIAGE_RETURN, LINE_FEED}
use Rattle.yf_chars.specs.Text.{code}
use Rattle.yf_lines.specs.declared.line.Line.{Line}
use Rattle.yf_lines.specs.declared.packed_lines.PackedLine.{PackedLine}

-- the number of bytes of the break that ends with these two characters, or 0 if they end with no break
abbrev pub break_width : ℕ → ℕ → ℕ
break_width before last =
    if last == LINE_FEED then (if before == CARRIAGE_RETURN then 2 else 1) else (if last == CARRIAGE_RETURN then 1 else 0)

-- the end of a line's text; the next line begins at n
abbrev pub end_before : List ℕ → ℕ → ℕ
end_before t n = n - break_width (code t (n - 2)) (code t (n - 1))

-- the line of a packed line; the next line begins at n
abbrev pub line_of : List ℕ → PackedLine → ℕ → Line
line_of t r n = record { start = r.start; end = end_before t n; next = n; indent = r.indent }

-- the start of the first line
abbrev pub first_start : List PackedLine → ℕ → ℕ
first_start [] e = e
first_start (r ∷ rs) e = r.start

-- the lines of packed lines
abbrev pub lines_of : List ℕ → ℕ → List PackedLine → List Line
lines_of t e [] = []
lines_of t e (r ∷ rs) = line_of t r (first_start rs e) ∷ lines_of t e rs

-- the start of the line after the one at index k
abbrev pub next_start : List PackedLine → ℕ → ℕ → ℕ
next_start [] k e = e
next_start (r ∷ rs) zero e = first_start rs e
next_start (r ∷ rs) (suc k) e = next_start rs k e

-- exactly the first k packed lines begin at the offset or before it
pub record RowsBegun (rs : List PackedLine) (offset k : ℕ) : Type 0 where
  pub before : (m : ℕ) (r : PackedLine) → slice_get rs m ≡ Some r → m < k → r.start ≤ offset
  pub follows : (m : ℕ) (r : PackedLine) → slice_get rs m ≡ Some r → k ≤ m → offset < r.start
