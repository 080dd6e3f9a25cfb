-- White space at the end of a span, and comments that other text precedes without exactly two spaces between them.
use Rattle.std.specs.Prelude.{◌≡◌, ℕ, ◌+◌, ◌-◌, ◌≤◌, ◌⊎◌, false, true, List, length, slice_get, Some}
use Rattle.yf_chars.specs.Chain.{Many}
use Rattle.yf_chars.specs.Class.{is_break_char, is_white}
use Rattle.yf_chars.specs.Text.{code}
use Rattle.yf_comments.specs.Comment.{CommentValue}
use Rattle.yf_events.specs.declared.lists.Lists.{Lists}
use Rattle.yf_lines.specs.Basic.{LineStart}

-- the white space that ends the text from `start` to `end` begins at the offset `at`
pub record WhitesEnd (t : List ℕ) (start end at : ℕ) : Type 0 where
  pub whites : List ℕ
  pub run : Many t is_white at end whites
  pub first : (at ≡ start) ⊎ (is_white (code t (at - 1)) ≡ false)
  pub from : start ≤ at

-- exactly two spaces from i to j
pub record TwoSpaces (t : List ℕ) (i j : ℕ) : Type 0 where
  pub two : j ≡ i + 2
  pub first : code t i ≡ 32
  pub second : code t (i + 1) ≡ 32

-- comment-space: a comment after other text on its line, without exactly two spaces between them. Byte order marks at
-- the line's start are not text
pub data IsClose (t : List ℕ) (offset : ℕ) : Type 0 where
  close : {at : ℕ} → WhitesEnd t 0 offset at → (LineStart t at → ⊥) → (TwoSpaces t at offset → ⊥) → IsClose t offset

-- the number sign of the comment of that index, if it is at fault
pub data CloseComment (t : List ℕ) (r : Lists) (k : ℕ) : ℕ → Type 0 where
  of_comment : {c : CommentValue} → slice_get r.comments k ≡ Some c → IsClose t c.offset → CloseComment t r k c.offset

-- only white space follows the document marker at that offset, on its line
pub record IsAlone (t : List ℕ) (marker : ℕ) : Type 0 where
  pub whites : List ℕ
  pub end : ℕ
  pub run : Many t is_white (marker + 3) end whites
  pub stops : (is_break_char (code t end) ≡ true) ⊎ (end ≡ length t)
