-- Columns in the source, of offsets with only characters of a class before them on their line.
use Rattle.std.specs.Prelude.{ℕ, zero, suc, ◌-◌, Bool, true, false, ◌==◌, ◌||◌, if◌then◌else◌, List, [], ◌∷◌, option_map, Option, Some, None}
use Rattle.yf_chars.specs.Class.{is_break_char, is_white}
use Rattle.yf_chars.specs.Signs.{BYTE_ORDER_MARK}
use Rattle.yf_chars.specs.Text.{code}

-- white space, and the signs of entries
abbrev pub is_sign : ℕ → Bool
is_sign c = (c == 45) || ((c == 63) || (c == 58))

abbrev pub is_white_or_sign : ℕ → Bool
is_white_or_sign c = is_white c || is_sign c

abbrev pub counts : Bool → ℕ → Bool
counts true = is_white_or_sign
counts false = is_white

-- the column after a character c; a line begins after a break and after a byte order mark; `mark` is the mark that ends
-- with c, if c ends one
abbrev pub column_after : (ℕ → Bool) → ℕ → ℕ → Option ℕ → Option ℕ
column_after p c mark column =
    if is_break_char c then Some 0 else if p c then option_map suc column else if mark == BYTE_ORDER_MARK then Some 0 else None

-- the number of characters of the class between the start of the line and the offset, or None if other characters are
-- there too
unfoldable pub column_by : (ℕ → Bool) → List ℕ → ℕ → Option ℕ
column_by p t zero = Some 0
column_by p t (suc i) = column_after p (code t i) (code t (i - 2)) (column_by p t i)

-- the column, if only white space precedes the offset on its line
abbrev pub own_column : List ℕ → ℕ → Option ℕ
own_column t i = column_by is_white t i

-- the column of the first entry of a collection, if the entry has an offset
abbrev pub source_column : List ℕ → List ℕ → Option ℕ
source_column t [] = None
source_column t (i ∷ is) = column_by is_white_or_sign t i
