-- The columns of byte offsets, from 0.
use Rattle.std.specs.Prelude.{◌≡◌, ℕ, ◌+◌, ◌<◌, ◌≤◌, List, length, get_or}
use Rattle.std.specs.Str.{IsCharBoundary}
use Rattle.yf_lines.specs.Lines.{PlaceOf}

-- the offset has this column, from 0, in its line
pub record IsColumn (t : List ℕ) (offset column : ℕ) : Type 0 where
  pub line : ℕ
  pub place : PlaceOf t offset line (column + 1)

-- the first k items are the columns of these offsets, or any number for an offset within a character; the others are
-- still the offsets
pub record ColumnsTo (t : List ℕ) (offsets now : List ℕ) (k : ℕ) : Type 0 where
  pub count : length now ≡ length offsets
  pub columns : (j : ℕ) → j < k → IsCharBoundary t (get_or offsets j 0) → IsColumn t (get_or offsets j 0) (get_or now j 0)
  pub others : (j : ℕ) → k ≤ j → get_or now j 0 ≡ get_or offsets j 0
