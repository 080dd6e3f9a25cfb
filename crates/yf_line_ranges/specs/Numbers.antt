-- How a text writes a number.
use Rattle.std.specs.Prelude.{ℕ, ◌^◌, ◌&&◌, Bool, nat_lt, List, length}
use Rattle.std.specs.Char.{is_ascii_digit}
use Rattle.std.specs.List.{list_all}
use Rattle.std.specs.Str.Parse.{digits_value}

-- The number that digits write.
abbrev pub number_of : List ℕ → ℕ
number_of text = digits_value 10 text

-- Whether a text of one or more digits, and nothing else, writes a number of 64 bits.
abbrev pub is_number : List ℕ → Bool
is_number text = list_all is_ascii_digit text && (nat_lt 0 (length text) && nat_lt (number_of text) (2 ^ 64))
