-- Ranges of lines. Numbers of lines begin at 1.
use Rattle.std.specs.Prelude.{ℕ, Bool, true, false, ◌&&◌, ◌||◌, nat_le, nat_lt, List, [], ◌∷◌}
use Rattle.yf_line_ranges.specs.declared.range.LineRange.{LineRange}

-- a line is in one of the ranges
abbrev pub is_asked : List LineRange → ℕ → Bool
is_asked [] n = false
is_asked (r ∷ asked) n = (nat_le r.first n && nat_le n r.last) || is_asked asked n

-- each range ends before the line
abbrev pub all_before : List LineRange → ℕ → Bool
all_before [] line = true
all_before (r ∷ asked) line = nat_lt r.last line && all_before asked line

-- no range begins before the line, nor before the range before it
abbrev pub ascend_after : ℕ → List LineRange → Bool
ascend_after first [] = true
ascend_after first (r ∷ asked) = nat_le first r.first && ascend_after r.first asked
