-- The content that a derivation by the standard's productions adds to a scalar (6.5, 7.3 and 8.1): a function of the
-- derivation, by the name of each production and the content of its parts. The standard's own names say most of it.
use Rattle.std.specs.Prelude.{ℕ, ◌+◌, ◌-◌, Bool, ◌==◌, ◌&&◌, List, [], ◌∷◌, ◌++◌, Option, Some, None, if◌then◌else◌}
use lib.Utf8.{scalar}
use Rattle.yf_chars.specs.Text.{code}
use Rattle.yf_chars.specs.Escape.{named, number, is_high, is_low, joined}
use Rattle.yf_quoted.specs.Quoted.{Piece}
use Rattle.yf_quoted.specs.Quoted.Piece.{good, bad}
use Rattle.yf_standard.specs.Notation.{Form, Condition}
use Rattle.yf_standard.specs.Notation.Form.{b-as-line-feed, b-non-content, b-as-space, s-indent, s-indent-less-than, s-indent-less-or-equal, s-separate-in-line, c-ns-esc-char, s-double-escaped, c-double-quoted, c-quoted-quote, c-single-quoted, c-b-block-header, l-trail-comments, c-l+literal, c-l+folded}
use Rattle.yf_standard.specs.Productions.{rule}
use Rattle.yf_standard.specs.Literal.{Derived}
use Rattle.yf_standard.specs.Literal.Derived.{by_rule, by_collection, nothing, one_of, one_then, in_left, in_right, absent, present, no_more, one_more, at_least_one, without, where_holds, for_some_m, for_some_k, within, clear_of_markers}

-- a function that gives the meaning of a production from the meanings of its parts
abbrev pub Making : (Condition → ℕ → Type 0) → List ℕ → Type 0 → Type 0
Making L t A = (e : ℕ) (f : Form) (i j : ℕ) → Derived L t e (rule f) i j → List A → List A

-- the meaning of a derivation, in order of the text, from the meaning of one character and that of each production
unfoldable pub meant : {L : Condition → ℕ → Type 0} {t : List ℕ} {A : Type 0} → (ℕ → List A) → Making L t A
    → {e : ℕ} {f : Form} {i j : ℕ} → Derived L t e f i j → List A
meant one made (by_rule {e = e} {f = f} {i = i} {j = j} k d) = made e f i j d (meant one made d)
meant one made (by_collection {d = r} {f = f} {i = i} {j = j} k room d) = made r f i j d (meant one made d)
meant one made nothing = []
meant {t = t} one made (one_of {i = i} is) = one (code t i)
meant one made (one_then d g) = meant one made d ++ meant one made g
meant one made (in_left d) = meant one made d
meant one made (in_right d) = meant one made d
meant one made absent = []
meant one made (present d) = meant one made d
meant one made no_more = []
meant one made (one_more d g) = meant one made d ++ meant one made g
meant one made (at_least_one d g) = meant one made d ++ meant one made g
meant one made (without d s) = meant one made d
meant one made (where_holds h) = []
meant one made (for_some_m m d) = meant one made d
meant one made (for_some_k k d) = meant one made d
meant one made (within d few) = meant one made d
meant one made (clear_of_markers d c) = meant one made d

-- a character of content, or an escape: the number that it writes, its start and its end
pub data Mark : Type 0 where
  char : ℕ → Mark
  escape : ℕ → ℕ → ℕ → Mark

-- 5.7: the number that an escape writes, from its letter or from the hexadecimal digits after it
unfoldable pub escape_value : List ℕ → ℕ → ℕ → Option ℕ → ℕ
escape_value t i j (Some v) = v
escape_value t i j None = number t (i + 2) (j - (i + 2))

-- 7.3.1: an escaped break adds the white space before its backslash and the empty lines after it
unfoldable pub no_backslash : List Mark → List Mark
no_backslash [] = []
no_backslash (char c ∷ xs) = if c == 92 then no_backslash xs else char c ∷ no_backslash xs
no_backslash (x ∷ xs) = x ∷ no_backslash xs

-- 7.3: the content between quotes; 8.1: the content after the sign of a block scalar
unfoldable pub but_last : List Mark → List Mark
but_last [] = []
but_last (x ∷ []) = []
but_last (x ∷ y ∷ xs) = x ∷ but_last (y ∷ xs)

unfoldable pub but_first : List Mark → List Mark
but_first [] = []
but_first (x ∷ xs) = xs

unfoldable pub content_made : List ℕ → Form → ℕ → ℕ → List Mark → List Mark
-- 6.1 and 6.2: indentation and separation are not content
content_made t (s-indent n) i j x = []
content_made t (s-indent-less-than n) i j x = []
content_made t (s-indent-less-or-equal n) i j x = []
content_made t s-separate-in-line i j x = []
-- 5.4 and 6.5: a break is a line feed, a space or nothing, as its name says
content_made t b-as-line-feed i j x = char 10 ∷ []
content_made t b-non-content i j x = []
content_made t b-as-space i j x = char 32 ∷ []
-- 5.7
content_made t c-ns-esc-char i j x = escape (escape_value t i j (named (code t (i + 1)))) i j ∷ []
-- 7.3.1
content_made t (s-double-escaped n) i j x = no_backslash x
content_made t (c-double-quoted n c) i j x = but_last (but_first x)
-- 7.3.2: two quotes are one
content_made t c-quoted-quote i j x = char 39 ∷ []
content_made t (c-single-quoted n c) i j x = but_last (but_first x)
-- 8.1.1: neither the header nor comments after it are content
content_made t (c-b-block-header m k) i j x = []
content_made t (l-trail-comments n) i j x = []
content_made t (c-l+literal n) i j x = but_first x
content_made t (c-l+folded n) i j x = but_first x
-- all others add the content of their parts
content_made t f i j x = x

abbrev pub one_char : ℕ → List Mark
one_char c = char c ∷ []

abbrev pub making_content : (L : Condition → ℕ → Type 0) (t : List ℕ) → Making L t Mark
making_content L t e f i j d x = content_made t f i j x

abbrev pub content : {L : Condition → ℕ → Type 0} {t : List ℕ} {e : ℕ} {f : Form} {i j : ℕ} → Derived L t e f i j → List Mark
content {L} {t} d = meant one_char (making_content L t) d

-- the characters of a text
abbrev pub marks : List ℕ → List Mark
marks [] = []
marks (c ∷ cs) = char c ∷ marks cs

-- an escape of a number that is no character's is bad; its offset
unfoldable pub piece_of : ℕ → ℕ → Piece
piece_of v i = if scalar v then good v else bad i

-- two halves of a pair, each by `\u` and four digits, one directly after the other
unfoldable pub is_pair : ℕ → ℕ → ℕ → ℕ → ℕ → ℕ → Bool
is_pair v i k w g j = (is_high v && is_low w) && ((k == i + 6) && ((g == k) && (j == k + 6)))

-- 5.7: the meaning of the marks of a double-quoted scalar, in which such a pair is one character
unfoldable pub pieces : List Mark → List Piece
pieces [] = []
pieces (char c ∷ xs) = good c ∷ pieces xs
pieces (escape v i k ∷ []) = piece_of v i ∷ []
pieces (escape v i k ∷ char c ∷ xs) = piece_of v i ∷ good c ∷ pieces xs
pieces (escape v i k ∷ escape w g j ∷ xs) =
    if is_pair v i k w g j then piece_of (joined v w) i ∷ pieces xs else piece_of v i ∷ pieces (escape w g j ∷ xs)
