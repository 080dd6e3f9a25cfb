-- The lines of a text t, the position of an offset, and the forbidden lines (YAML 1.2.2, 5.4 and 9.1.2). A line ends
-- with its break: CR LF, CR or LF. The text after the last break is a line if it is not empty. Offsets count bytes.
use Rattle.std.specs.Prelude.{◌≡◌, ◌≢◌, ℕ, ◌+◌, ◌-◌, ◌<◌, ◌≤◌, Bool, true, false, ◌==◌, nat_lt, List, [], ◌∷◌, length, slice_get, Some}
use Rattle.std.specs.Str.{IsCharBoundary, IsUtf8}
use Rattle.yf_chars.specs.Signs.{BYTE_ORDER_MARK, CARRIAGE_RETURN, LINE_FEED, SPACE}
use Rattle.yf_chars.specs.Chain.{Chain, Many}
use Rattle.yf_chars.specs.Class.{is_break_char}
use Rattle.yf_chars.specs.Text.{code, no_char}
use Rattle.yf_lines.specs.Basic.{Break, Spaces, is_marker}
use Rattle.yf_lines.specs.declared.line.Line.{Line}

-- no character of a break is at i or after it, before j
pub record NoBreakIn (t : List ℕ) (i j : ℕ) : Type 0 where
  pub order : i ≤ j
  pub none : (h : ℕ) → i ≤ h → h < j → is_break_char (code t h) ≡ false

-- the end of a line's text and the start of the next line: around a break, or both at the end of the text
pub data LineEnd (t : List ℕ) : ℕ → ℕ → Type 0 where
  at_break : {i j : ℕ} → Break t i j → LineEnd t i j
  at_end : {i : ℕ} → i ≡ length t → LineEnd t i i

-- exactly k spaces are from i on
pub record SpacesFrom (t : List ℕ) (i k : ℕ) : Type 0 where
  pub spaces : Spaces t i k
  pub stops : code t (i + k) ≢ SPACE

-- a line of the text: it has at least one character, counting those of its break
pub record IsLine (t : List ℕ) (l : Line) : Type 0 where
  pub order : l.start < l.next
  pub unbroken : NoBreakIn t l.start l.end
  pub ends : LineEnd t l.end l.next
  pub indented : SpacesFrom t l.start l.indent

-- the line's offsets are boundaries
pub record IsCutAt (t : List ℕ) (l : Line) : Type 0 where
  pub start : IsCharBoundary t l.start
  pub end : IsCharBoundary t l.end
  pub next : IsCharBoundary t l.next

-- one line, from its start to the start of the next
pub data OneLine (t : List ℕ) : ℕ → ℕ → List Line → Type 0 where
  one_line : {l : Line} → IsLine t l → OneLine t l.start l.next (l ∷ [])

-- all lines of the text, in order
abbrev pub AreLines : List ℕ → List Line → Type 0
AreLines t ls = Chain (OneLine t) 0 (length t) ls

-- the value of a table of lines: a text and its lines
pub record Table : Type 0 where
  pub text : List ℕ
  pub lines : List Line

-- the invariant of a table
pub record IsTable (t : List ℕ) (ls : List Line) : Type 0 where
  pub utf8 : IsUtf8 t
  pub lines : AreLines t ls

-- the offset is not within a CR LF
pub record Apart (t : List ℕ) (i : ℕ) : Type 0 where
  pub no_cr : code t i ≡ LINE_FEED → code t (i - 1) ≢ CARRIAGE_RETURN

-- the byte order mark
abbrev pub is_mark : ℕ → Bool
is_mark c = c == BYTE_ORDER_MARK

-- a character, and not the end of the text
abbrev pub is_char : ℕ → Bool
is_char c = nat_lt c no_char

-- byte order marks are from i to j, and none at j
pub record Marks (t : List ℕ) (i j : ℕ) : Type 0 where
  pub marks : List ℕ
  pub run : Many t is_mark i j marks
  pub stops : is_mark (code t j) ≡ false

-- the line holds the offset: from its start to before the start of the next line. A last line without a break also
-- holds the end of the text
pub data LineHolds (l : Line) (offset : ℕ) : Type 0 where
  inside : l.start ≤ offset → offset < l.next → LineHolds l offset
  at_text_end : l.end ≡ l.next → l.next ≡ offset → LineHolds l offset

-- the column of an offset in the line that begins at i: one more than the number of characters between the line's marks
-- and the offset. An offset at a mark of the line's start has column 1
pub data ColumnOf (t : List ℕ) (i offset : ℕ) : ℕ → Type 0 where
  among_marks : {j : ℕ} → Marks t i j → offset < j → ColumnOf t i offset 1
  after_marks : {j : ℕ} {x : List ℕ} → Marks t i j → Many t is_char j offset x → ColumnOf t i offset (length x + 1)

-- exactly the first k lines begin at the offset or before it
pub record LinesBegunAt (ls : List Line) (offset k : ℕ) : Type 0 where
  pub before : (m : ℕ) (l : Line) → slice_get ls m ≡ Some l → m < k → l.start ≤ offset
  pub follows : (m : ℕ) (l : Line) → slice_get ls m ≡ Some l → k ≤ m → offset < l.start

-- a line would begin at the end of the text: the text is empty, or ends with a break
pub data NewLine (t : List ℕ) : Type 0 where
  of_empty : length t ≡ 0 → NewLine t
  of_break : {i : ℕ} → Break t i (length t) → NewLine t

-- the line and column of an offset, both from 1: those in the line that holds it, or column 1 of the line that would
-- follow
pub data PlaceOf (t : List ℕ) (offset : ℕ) : ℕ → ℕ → Type 0 where
  in_line : {ls : List Line} {l : Line} {c : ℕ} (k : ℕ) → AreLines t ls → slice_get ls k ≡ Some l → LineHolds l offset
      → ColumnOf t l.start offset c → PlaceOf t offset (k + 1) c
  after_lines : {ls : List Line} → AreLines t ls → offset ≡ length t → NewLine t → PlaceOf t offset (length ls + 1) 1

-- the line that begins at i is forbidden: it begins, after its marks, with a document marker
pub record IsForbiddenLine (t : List ℕ) (i : ℕ) : Type 0 where
  pub at : ℕ
  pub follows : Marks t i at
  pub marker : is_marker t at ≡ true
