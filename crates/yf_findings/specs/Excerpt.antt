-- A line of a text, cut around a character, and the marks under a part of it. `cs` are the characters of the line, and
-- `at` is the index of the first one of the part.
use Rattle.std.specs.Prelude.{ℕ, ◌+◌, ◌-◌, ◌==◌, ◌||◌, Bool, nat_eq, nat_le, nat_lt, List, [], ◌∷◌, ◌++◌, codes, length, drop, max, min, slice_range, take}
use Rattle.std.specs.Prelude.{if◌then◌else◌, reverse}
use Rattle.std.specs.List.{prefix_len}
use Rattle.yf_explain.specs.Shown.{all_shown, columns, columns_of}
use Rattle.yf_findings.specs.Pieces.{as_shown}
use Rattle.yf_findings.specs.declared.excerpt.TheConstants.{ALL, BEFORE}
use Rattle.yf_findings.specs.declared.excerpt.Window.{Window}
use Rattle.yf_report.specs.declared.problem.Range.{Range}

-- the number of characters of the longest front that takes at most n columns
abbrev pub fitting : ℕ → List ℕ → ℕ
fitting n [] = 0
fitting n (c ∷ cs) = if nat_le (columns_of c) n then fitting (n - columns_of c) cs + 1 else 0

-- the width of that front
abbrev pub width_in : ℕ → List ℕ → ℕ
width_in n cs = columns (take (fitting n cs) cs)

-- the index of a column, or the length of the line; columns don't count byte order marks at the start of a line
abbrev pub is_byte_order_mark : ℕ → Bool
is_byte_order_mark c = nat_eq c 0xFEFF

abbrev pub index_of : List ℕ → ℕ → ℕ
index_of cs column = min (prefix_len is_byte_order_mark cs + (column - 1)) (length cs)

-- whether a column is past the end of the characters; then they are only a front of the line
abbrev pub is_past : List ℕ → ℕ → Bool
is_past cs column = nat_lt (length cs) (prefix_len is_byte_order_mark cs + (column - 1))

-- the index after the part of a range on its first line
abbrev pub end_of : List ℕ → Range → ℕ
end_of cs r = if r.end_line == r.line then index_of cs r.end_column else length cs

-- the characters before the character, the last one first
abbrev pub back_of : List ℕ → ℕ → List ℕ
back_of cs at = reverse (take at cs)

-- the index of the first character that is shown, and of the one after the last one
abbrev pub start_of : List ℕ → ℕ → ℕ
start_of cs at = at - fitting BEFORE (back_of cs at)

abbrev pub stop_of : List ℕ → ℕ → ℕ
stop_of cs at = at + fitting (ALL - width_in BEFORE (back_of cs at)) (drop at cs)

-- three dots if a part is cut off
abbrev pub dots : Bool → List ℕ
dots cut = if cut then codes "..." else []

-- the number of columns before the character
abbrev pub indent_of : List ℕ → ℕ → ℕ
indent_of cs at = length (dots (nat_lt 0 (start_of cs at))) + width_in BEFORE (back_of cs at)

-- the number of marks under the part up to another index: its width, as far as it is shown, and at least 1
abbrev pub marks_of : List ℕ → ℕ → ℕ → ℕ
marks_of cs at end = max 1 (width_in ALL (slice_range cs at (max at (min end (stop_of cs at)))))

-- whether the line goes on after the shown part; `past`: the range is past the end of the line
abbrev pub is_cut : ℕ → ℕ → Bool → Bool
is_cut stop count past = nat_lt stop count || past

-- the shown part of a line for a range
abbrev pub window_at : List ℕ → ℕ → ℕ → Bool → Window
window_at cs at end past = record {
  start = start_of cs at;
  stop = stop_of cs at;
  cut = is_cut (stop_of cs at) (length cs) past;
  indent = indent_of cs at;
  marks = marks_of cs at end;
}

abbrev pub window_of : List ℕ → Range → Window
window_of cs r = window_at cs (index_of cs r.column) (end_of cs r) (is_past cs r.column)

-- the shown part as a line of the page, with dots for what is cut off
abbrev pub excerpt : List ℕ → Window → List ℕ
excerpt cs w =
    as_shown (codes "  | ") ++ (as_shown (dots (nat_lt 0 w.start)) ++ (all_shown (slice_range cs w.start w.stop)
    ++ (as_shown (dots w.cut) ++ 10 ∷ [])))
