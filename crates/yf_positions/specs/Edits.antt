-- Edits of a document, which all refer to the text before any edit.
use Rattle.std.specs.Prelude.{◌≡◌, ℕ, suc, ◌+◌, ◌<◌, ◌≤◌, Bool, true, ◌&&◌, ◌==◌, nat_le, List, [], ◌∷◌, ◌++◌, length, take, drop, slice_index, slice_range}
use Rattle.yf_diff.specs.Script.{Edit, kept, olds, news, is_change}
use Rattle.yf_diff.specs.Texts.{lines_of}
use Rattle.yf_positions.specs.declared.encoding.Encoding.{Encoding}
use Rattle.yf_positions.specs.declared.position.LspRange.{LspRange}
use Rattle.yf_positions.specs.declared.text_edit.Offsets.{Offsets}
use Rattle.yf_positions.specs.Offsets.{offset_of}

-- an edit: the new text of a range
pub record RangeEdit : Type 0 where
  pub range : LspRange
  pub text : List ℕ

abbrev pub edit_start : Encoding → List ℕ → RangeEdit → ℕ
edit_start e t x = offset_of e t x.range.start

abbrev pub edit_end : Encoding → List ℕ → RangeEdit → ℕ
edit_end e t x = offset_of e t x.range.end

-- the edits are in order and do not overlap, and none begins before the offset
abbrev pub in_order : Encoding → List ℕ → ℕ → List RangeEdit → Bool
in_order e t at [] = true
in_order e t at (x ∷ rest) = nat_le at (edit_start e t x) &&
    (nat_le (edit_start e t x) (edit_end e t x) && in_order e t (edit_end e t x) rest)

-- the text from the offset on with the edits made; the text between them stays
abbrev pub edited : Encoding → List ℕ → ℕ → List RangeEdit → List ℕ
edited e t at [] = drop at t
edited e t at (x ∷ rest) = slice_range t at (edit_start e t x) ++ (x.text ++ edited e t (edit_end e t x) rest)

-- that text up to the end of the last edit, and the end of the last edit
abbrev pub edited_front : Encoding → List ℕ → ℕ → List RangeEdit → List ℕ
edited_front e t at [] = []
edited_front e t at (x ∷ rest) = slice_range t at (edit_start e t x) ++
    (x.text ++ edited_front e t (edit_end e t x) rest)

abbrev pub last_end : Encoding → List ℕ → ℕ → List RangeEdit → ℕ
last_end e t at [] = at
last_end e t at (x ∷ rest) = last_end e t (edit_end e t x) rest

-- a line feed is before the offset, or it is an end of the text
pub record AfterFeed (t : List ℕ) (i : ℕ) : Type 0 where
  pub bound : i ≤ length t
  pub feed : (k : ℕ) → i ≡ suc k → i < length t → slice_index t k ≡ 10

-- the edits make the first j bytes of the new text of the first i bytes of the old one
pub record EditsReach (e : Encoding) (old new : List ℕ) (edits : List RangeEdit) (i j : ℕ) : Type 0 where
  pub order : in_order e old 0 edits ≡ true
  pub passed : last_end e old 0 edits ≤ i
  pub text : edited_front e old 0 edits ++ slice_range old (last_end e old 0 edits) i ≡ take j new

-- the bytes of lines, one line after the other
abbrev pub text_of : List (List ℕ) → List ℕ
text_of [] = []
text_of (line ∷ rest) = line ++ text_of rest

-- no line stays
abbrev pub all_changes : List Edit → Bool
all_changes [] = true
all_changes (x ∷ rest) = is_change x && all_changes rest

-- The edits are those of a script from an offset on: each replaces dropped lines by added ones, and has at least one
-- such line. No edit covers a kept line.
pub data EditsFollow (e : Encoding) (old : List ℕ) : ℕ → List Edit → List RangeEdit → Type 0 where
  follow_end : {at : ℕ} → EditsFollow e old at [] []
  follow_kept : {at : ℕ} {line : List ℕ} {rest : List Edit} {edits : List RangeEdit}
      → EditsFollow e old (at + length line) rest edits → EditsFollow e old at (kept line ∷ rest) edits
  follow_edit : {at : ℕ} (run : List Edit) {rest : List Edit} (x : RangeEdit) {edits : List RangeEdit}
      → (run ≡ [] → ⊥) → all_changes run ≡ true → edit_start e old x ≡ at
      → edit_end e old x ≡ at + length (text_of (olds run))
      → x.text ≡ text_of (news run) → EditsFollow e old (at + length (text_of (olds run))) rest edits
      → EditsFollow e old at (run ++ rest) (x ∷ edits)

-- the edits are those of a script between the lines of both texts
pub record EditsOfScript (e : Encoding) (old new : List ℕ) (edits : List RangeEdit) : Type 0 where
  pub script : List Edit
  pub olds : olds script ≡ lines_of old
  pub news : news script ≡ lines_of new
  pub follow : EditsFollow e old 0 script edits

-- no line is dropped or added between two offsets
abbrev pub is_empty : Offsets → Offsets → Bool
is_empty from to = from.old == to.old && from.new == to.new

-- the edit of a range with this text is added, unless nothing is dropped or added
pub data AddsEdit (e : Encoding) (t text : List ℕ) (from to : Offsets) (before after : List RangeEdit) : Type 0 where
  no_edit : from.old ≡ to.old → from.new ≡ to.new → after ≡ before → AddsEdit e t text from to before after
  one_edit : (x : RangeEdit) → (from.old ≡ to.old → from.new ≡ to.new → ⊥) → edit_start e t x ≡ from.old
      → edit_end e t x ≡ to.old → x.text ≡ text
      → after ≡ before ++ x ∷ [] → AddsEdit e t text from to before after
