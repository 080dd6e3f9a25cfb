-- The start of an offset's line, searched back to an offset with a known start, and the offset's column from it.
use Rattle.std.specs.Prelude.{ℕ, zero, suc, ◌+◌, ◌-◌, Bool, ◌==◌, nat_lt, if◌then◌else◌, List, [], ◌∷◌, option_map, Option, Some, None}
use Rattle.yf_chars.specs.Class.{is_break_char}
use Rattle.yf_chars.specs.Signs.{BYTE_ORDER_MARK}
use Rattle.yf_chars.specs.Text.{code}
use Rattle.yf_print.specs.declared.source_columns.KnownLine.{KnownLine}
use Rattle.yf_print.specs.Layouts.SourceColumns.{is_white_or_sign}

abbrev pub text_start : KnownLine
text_start = record { offset = 0; start = Some 0 }

-- the start of the line after a character c that ends at the offset `next`; `mark` is the byte order mark that ends
-- with c, if c ends one
abbrev pub start_after : (ℕ → Bool) → ℕ → ℕ → ℕ → Option ℕ → Option ℕ
start_after p c mark next start = if is_break_char c then Some next else if p c then start else if mark == BYTE_ORDER_MARK then Some next else None

-- the start of the line of the offset n bytes after a known one, or None if characters outside of the class precede
-- that offset on its line
unfoldable pub start_on : (ℕ → Bool) → List ℕ → KnownLine → ℕ → Option ℕ
start_on p t k zero = k.start
start_on p t k (suc n) = start_after p (code t (k.offset + n)) (code t (k.offset + n - 2)) (suc (k.offset + n)) (start_on p t k n)

abbrev pub start_since : (ℕ → Bool) → List ℕ → KnownLine → ℕ → Option ℕ
start_since p t k i = start_on p t k (i - k.offset)

abbrev pub column_of : KnownLine → Option ℕ
column_of k = option_map (λ s. k.offset - s) k.start

-- Of entries.

abbrev pub known_before : KnownLine → ℕ → KnownLine
known_before k i = if nat_lt i k.offset then text_start else k

abbrev pub known_at : List ℕ → KnownLine → ℕ → KnownLine
known_at t k i = record { offset = i; start = start_since is_white_or_sign t (known_before k i) i }

-- the known line after the first entry of a collection, if the entry has an offset
abbrev pub known_after : List ℕ → KnownLine → List ℕ → KnownLine
known_after t k [] = k
known_after t k (i ∷ is) = known_at t k i

-- the column of that entry, from the known line after it
abbrev pub column_if : KnownLine → List ℕ → Option ℕ
column_if k [] = None
column_if k (i ∷ is) = column_of k
