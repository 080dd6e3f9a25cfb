-- The lines of `--lines`.
use Rattle.std.specs.Prelude.{ℕ, Bool, List}
use Rattle.std.specs.List.{flat_map, list_all}
use Rattle.yf_line_ranges.specs.Written.{are_ranges, ranges_in}
use Rattle.yf_line_ranges.specs.declared.range.LineRange.{LineRange}

-- Whether each word is one range or several with commas between.
abbrev pub are_lines : List (List ℕ) → Bool
are_lines words = list_all are_ranges words

-- The ranges in the words, word by word.
abbrev pub lines_in : List (List ℕ) → List LineRange
lines_in words = flat_map ranges_in words
