-- White space and line breaks before an offset.
use Rattle.std.specs.Prelude.{ℕ, zero, suc, ◌==◌, ◌||◌, Bool, List, slice_index, if◌then◌else◌}

abbrev pub is_white : ℕ → Bool
is_white c = c == 32 || c == 9

abbrev pub is_break : ℕ → Bool
is_break c = c == 10 || c == 13

-- the offset of the last byte before an offset that is neither white space nor a part of a line break
abbrev pub last_content : List ℕ → ℕ → ℕ
last_content t zero = 0
last_content t (suc i) =
    if is_white (slice_index t i) || is_break (slice_index t i) then last_content t i else i

-- the start of the white space before an offset
abbrev pub white_start : List ℕ → ℕ → ℕ
white_start t zero = 0
white_start t (suc i) = if is_white (slice_index t i) then white_start t i else suc i
