-- How a text writes ranges of lines: `3-7,12` is the lines from 3 to 7, and line 12.
use Rattle.std.specs.Prelude.{ℕ, ◌==◌, ◌&&◌, Bool, nat_le, nat_lt, List, length, map, if◌then◌else◌}
use Rattle.std.specs.List.{after_first, before_first, list_all, position_or_len, slice_split}
use Rattle.yf_line_ranges.specs.Numbers.{is_number, number_of}
use Rattle.yf_line_ranges.specs.declared.range.LineRange.{LineRange}

-- Whether a text writes the number of a line: 1 or more.
abbrev pub is_line_number : List ℕ → Bool
is_line_number text = is_number text && nat_lt 0 (number_of text)

-- Whether two texts are the numbers of the first and the last line of a range.
abbrev pub are_ends : List ℕ → List ℕ → Bool
are_ends first last = is_line_number first && (is_line_number last && nat_le (number_of first) (number_of last))

-- The lines from one number to another.
abbrev pub lines_between : List ℕ → List ℕ → LineRange
lines_between first last = record { first = number_of first; last = number_of last }

-- Whether a byte is `-`.
abbrev pub is_hyphen : ℕ → Bool
is_hyphen b = b == 45

-- Whether a text has a `-`.
abbrev pub has_hyphen : List ℕ → Bool
has_hyphen part = nat_lt (position_or_len is_hyphen part) (length part)

-- Whether a text is a range of lines: `3-7`, or `12` for one line.
abbrev pub is_range : List ℕ → Bool
is_range part =
    if has_hyphen part then are_ends (before_first is_hyphen part) (after_first is_hyphen part)
    else are_ends part part

-- The lines of a text that is a range.
abbrev pub range_of : List ℕ → LineRange
range_of part =
    if has_hyphen part then lines_between (before_first is_hyphen part) (after_first is_hyphen part)
    else lines_between part part

-- The texts between the commas of a text: one more than it has commas.
abbrev pub parts_of : List ℕ → List (List ℕ)
parts_of text = slice_split (λ b. b == 44) text

-- Whether a text is one range or more with commas between.
abbrev pub are_ranges : List ℕ → Bool
are_ranges text = list_all is_range (parts_of text)

-- The ranges that a text writes, in its order.
abbrev pub ranges_in : List ℕ → List LineRange
ranges_in text = map range_of (parts_of text)
