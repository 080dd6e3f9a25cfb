-- Texts that stay unchanged as plain text on one line anywhere.
use Rattle.std.specs.Prelude.{ℕ, ◌-◌, Bool, List, length, slice_index, not, ◌&&◌, ◌||◌, ◌==◌}
use Rattle.std.specs.List.{list_any}
use Rattle.yf_chars.specs.Signs.{COLON, DASH, LINE_FEED, QUESTION, SPACE, TAB}

unfoldable pub has_line_feed : List ℕ → Bool
has_line_feed t = list_any (λ c. c == LINE_FEED) t

unfoldable pub ends_with_colon : List ℕ → Bool
ends_with_colon t = slice_index t (length t - 1) == COLON

-- the text is that one character
unfoldable pub is_only : ℕ → List ℕ → Bool
is_only c t = (length t == 1) && (slice_index t 0 == c)

-- the text begins with three times the character, before white space or the end
unfoldable pub is_marker_of : ℕ → List ℕ → Bool
is_marker_of c t =
    (slice_index t 0 == c) && (slice_index t 1 == c) && (slice_index t 2 == c)
    && ((length t == 3) || (slice_index t 3 == SPACE) || (slice_index t 3 == TAB))

-- it holds no line feed, does not end with `:`, is not `-` or `?`, and does not begin like a document marker
unfoldable pub is_steady : List ℕ → Bool
is_steady t =
    not (has_line_feed t) && not (ends_with_colon t) && not (is_only DASH t) && not (is_only QUESTION t)
    && not (is_marker_of 45 t) && not (is_marker_of 46 t)
