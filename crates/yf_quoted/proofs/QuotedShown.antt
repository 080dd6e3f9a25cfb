-- Example texts in quotes, each on one line.
use Rattle.std.proofs.Common.{◌≡◌, [], ◌∷◌, codes, refl}
use lib.Utf8.{encode}
use Rattle.yf_chars.specs.Class.{is_between, is_printable, is_break_char, is_nb_char}
use Rattle.yf_chars.specs.Escape.{upper_digit, two_digits, is_by_two, is_by_four, spelled_long, spelled_by, spelled, short_name}
use Rattle.yf_lines.specs.LineText.{IsLineText}
use Rattle.yf_quoted.specs.Written.{single_bytes, double_bytes}
use Rattle.yf_quoted.proofs.QuotedBack.{single_line_text, double_line_text}

-- it's
quote_twice : single_bytes (codes "it's") ≡ codes "'it''s'"
unfolding encode
quote_twice = refl

quote_is_at : IsLineText (codes "'it''s'")
unfolding encode is_nb_char is_printable is_between is_break_char
quote_is_at = single_line_text (codes "it's") refl

-- a, a line feed, a tab, and a character that is escaped by a number
breaks_spelled : double_bytes (97 ∷ 10 ∷ 9 ∷ 133 ∷ []) ≡ codes "\"a\\n\\t\\x85\""
unfolding encode upper_digit two_digits is_by_two is_by_four spelled_long spelled_by spelled short_name is_between
breaks_spelled = refl

breaks_stand : IsLineText (codes "\"a\\n\\t\\x85\"")
unfolding encode upper_digit two_digits is_by_two is_by_four spelled_long spelled_by spelled short_name is_between
breaks_stand = double_line_text (97 ∷ 10 ∷ 9 ∷ 133 ∷ []) refl
