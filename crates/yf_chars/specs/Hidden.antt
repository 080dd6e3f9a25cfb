-- Hidden characters, which are invisible or easily mistaken, and how they are written if they are escaped.
use Rattle.std.specs.Prelude.{ℕ, Bool, ◌==◌, ◌&&◌, ◌||◌, not, List, if◌then◌else◌, nat_lt}
use Rattle.ucd_derived.specs.Binary.{is_default_ignorable_code_point}
use Rattle.yf_chars.specs.Class.{is_between}
use Rattle.yf_chars.specs.Escape.{by_number, is_by_four, spelled}

-- the no-break spaces: of usual width, as wide as a digit, and narrow
unfoldable pub is_no_break_space : ℕ → Bool
is_no_break_space c = (c == 0xA0) || (c == 0x2007) || (c == 0x202F)

-- line breaks of other formats, which are ordinary characters in YAML 1.2: the next line, the separators of lines and
-- of paragraphs
unfoldable pub is_other_break : ℕ → Bool
is_other_break c = (c == 0x85) || (c == 0x2028) || (c == 0x2029)

-- characters of private use, which look as the font decides (general category Co)
unfoldable pub is_private_use : ℕ → Bool
is_private_use c = is_between 0xE000 0xF8FF c || is_between 0xF0000 0xFFFFD c || is_between 0x100000 0x10FFFD c

unfoldable pub is_hidden_besides : ℕ → Bool
is_hidden_besides c = is_no_break_space c || is_other_break c || is_private_use c

-- one of these, or one with the property Default_Ignorable_Code_Point of Unicode 18.0, such as all controls of
-- bidirectional text
unfoldable pub is_hidden : ℕ → Bool
is_hidden c = is_default_ignorable_code_point c || is_hidden_besides c

-- a hidden character that is otherwise written as itself in double quotes: not one up to U+00A0, nor one with four
-- digits
unfoldable pub is_spelled_out : ℕ → Bool
is_spelled_out c = nat_lt 160 c && (not (is_by_four c) && is_hidden c)

-- a character as it is written in double quotes if hidden ones are escaped
unfoldable pub spelled_out : ℕ → List ℕ
spelled_out c = if is_spelled_out c then by_number c else spelled c
