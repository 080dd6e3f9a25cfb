-- The positions of byte offsets, and the cursor of a pass that finds them.
use Rattle.std.specs.Prelude.{◌≡◌, ℕ, ◌+◌, ◌≤◌, List, length, slice_get, IfSome}
use Rattle.std.specs.List.{Contains}
use Rattle.std.specs.List.Sorted.{IsStrictlySortedBy}
use Rattle.std.specs.Ordering.{nat_cmp, ordering_then}
use Rattle.std.specs.declared.cmp.Ordering.{Ordering}
use Rattle.std.specs.Str.{IsCharBoundary}
use Rattle.yf_chars.specs.Chain.{Many}
use Rattle.yf_lines.specs.declared.line.Line.{Line}
use Rattle.yf_lines.specs.declared.place.Position.{Position}
use Rattle.yf_lines.specs.Lines.{Marks, PlaceOf, is_char}
use Rattle.yf_rule_sets.specs.declared.facts.cursor.Cursor.{Cursor}

-- the position of one of these offsets, which is a boundary; other offsets have no position
pub record IsPlaceIn (t : List ℕ) (offsets : List ℕ) (p : Position) : Type 0 where
  pub offset : ℕ
  pub among : Contains offsets offset
  pub boundary : IsCharBoundary t offset
  pub place : PlaceOf t offset p.line p.column

-- exactly the positions of these offsets
pub record PlacesOf (t : List ℕ) (offsets : List ℕ) (ps : List Position) : Type 0 where
  pub only : (p : Position) → Contains ps p → IsPlaceIn t offsets p
  pub all : (p : Position) → IsPlaceIn t offsets p → Contains ps p

-- the positions of some offsets with F: the findings of a rule
pub data FoundAt (t : List ℕ) (F : List ℕ → Type 0) (ps : List Position) : Type 0 where
  found_at : {os : List ℕ} → F os → PlacesOf t os ps → FoundAt t F ps

-- the order of positions: by line, then by column
abbrev pub place_cmp : Position → Position → Ordering
place_cmp p q = ordering_then (nat_cmp p.line q.line) (nat_cmp p.column q.column)

-- each position is before all that follow it, so none occurs twice
abbrev pub Ascending : List Position → Type 0
Ascending ps = IsStrictlySortedBy place_cmp ps

-- in the line that begins at `start`, the offset `at` has this column and is after the line's byte order marks
pub record HasColumn (t : List ℕ) (start at column : ℕ) : Type 0 where
  pub follows : ℕ
  pub marks : Marks t start follows
  pub characters : List ℕ
  pub run : Many t is_char follows at characters
  pub count : column ≡ length characters + 1
  pub boundary : IsCharBoundary t at
  pub room : column ≤ at + 1

-- the position of the cursor is right, if its line exists
pub record IsCursor (t : List ℕ) (ls : List Line) (s : Cursor) : Type 0 where
  pub reached : IfSome (slice_get ls s.line) (λ l. HasColumn t l.start s.at s.column)
