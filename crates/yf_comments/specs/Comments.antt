-- Comments and separation (YAML 1.2.2, 6.6 and 6.7), as relations between byte offsets of a text t. The meaning is the
-- list of comments. n is an indentation, from -1; c is a context.
use Rattle.std.specs.Prelude.{◌≡◌, ℕ, ◌+◌, ◌<◌, ◌≤◌, ℤ, Bool, true, false, ◌==◌, ◌||◌, List, [], ◌∷◌, ◌++◌, length, slice_range}
use Rattle.yf_chars.specs.Signs.{BYTE_ORDER_MARK, NUMBER_SIGN}
use Rattle.yf_chars.specs.declared.context.Ctx.{Ctx}
use Rattle.yf_chars.specs.Text.{code, next}
use Rattle.yf_chars.specs.Class.{is_white, is_break_char, is_nb_char}
use Rattle.yf_chars.specs.Chain.{Chain, Many}
use Rattle.yf_lines.specs.Basic.{is_key, Break, LineStart, SeparateInLine, FlowPrefix}
use Rattle.yf_comments.specs.Comment.{CommentValue}

-- only white space is before the offset on its line, not even a byte order mark
pub data Blank (t : List ℕ) : ℕ → Type 0 where
  text_begins : Blank t 0
  break_ends : {i j : ℕ} → Break t i j → Blank t j
  white_ends : {i : ℕ} → Blank t i → is_white (code t i) ≡ true → Blank t (next t i)

-- white space, a character of a break, or a byte order mark
unfoldable pub is_gap : ℕ → Bool
is_gap c = is_white c || is_break_char c || (c == BYTE_ORDER_MARK)

-- a line with only white space is before the offset, and between are only white space, breaks and byte order marks
pub data BlankBefore (t : List ℕ) : ℕ → Type 0 where
  blank_line : {i j : ℕ} → Blank t i → Break t i j → BlankBefore t j
  past_gap : {i : ℕ} → BlankBefore t i → is_gap (code t i) ≡ true → BlankBefore t (next t i)

-- the note of a comment or an entry at the offset
pub data HasBlankNote (t : List ℕ) (i : ℕ) : Bool → Type 0 where
  noted : BlankBefore t i → HasBlankNote t i true
  not_noted : (BlankBefore t i → ⊥) → HasBlankNote t i false

-- c-nb-comment-text: # and the characters after it, up to the first that isn't an nb-char
pub data CommentText (t : List ℕ) : ℕ → ℕ → List CommentValue → Type 0 where
  comment_text : {i j : ℕ} {x : List ℕ} {b : Bool} → code t i ≡ NUMBER_SIGN → Many t is_nb_char (i + 1) j x → HasBlankNote t i b
      → CommentText t i j (record { text = slice_range t i j; offset = i; blank_before = b } ∷ [])

-- b-comment: a break or the end of the text
pub data BreakOrEnd (t : List ℕ) : ℕ → ℕ → Type 0 where
  by_break : {i j : ℕ} → Break t i j → BreakOrEnd t i j
  by_end : {i : ℕ} → i ≡ length t → BreakOrEnd t i i

-- s-b-comment: the rest of a line
pub data LineRest (t : List ℕ) : ℕ → ℕ → List CommentValue → Type 0 where
  nothing : {i j : ℕ} → BreakOrEnd t i j → LineRest t i j []
  whites : {i h j : ℕ} → SeparateInLine t i h → BreakOrEnd t h j → LineRest t i j []
  comment : {i h k j : ℕ} {x : List CommentValue} → SeparateInLine t i h → CommentText t h k x → BreakOrEnd t k j → LineRest t i j x

-- l-comment: a line of white space, or of white space and a comment
pub data CommentLine (t : List ℕ) : ℕ → ℕ → List CommentValue → Type 0 where
  whites_line : {i h j : ℕ} → SeparateInLine t i h → BreakOrEnd t h j → CommentLine t i j []
  comment_line : {i h k j : ℕ} {x : List CommentValue} → SeparateInLine t i h → CommentText t h k x → BreakOrEnd t k j → CommentLine t i j x

-- s-l-comments: the rest of a line or the start of one, and comment lines
pub data LineEnd (t : List ℕ) : ℕ → ℕ → List CommentValue → Type 0 where
  past_rest : {i h j : ℕ} {x y : List CommentValue} → LineRest t i h x → Chain (CommentLine t) h j y → LineEnd t i j (x ++ y)
  from_start : {i j : ℕ} {x : List CommentValue} → LineStart t i → Chain (CommentLine t) i j x → LineEnd t i j x

-- s-separate-lines(n)
pub data SeparateLines (t : List ℕ) (n : ℤ) : ℕ → ℕ → List CommentValue → Type 0 where
  in_line : {i j : ℕ} → SeparateInLine t i j → SeparateLines t n i j []
  over_lines : {i h j : ℕ} {x : List CommentValue} → LineEnd t i h x → FlowPrefix t n h j → SeparateLines t n i j x

-- s-separate(n,c): in keys it stays on one line
pub data Separate (t : List ℕ) (n : ℤ) (c : Ctx) : ℕ → ℕ → List CommentValue → Type 0 where
  in_key : {i j : ℕ} → is_key c ≡ true → SeparateInLine t i j → Separate t n c i j []
  in_node : {i j : ℕ} {x : List CommentValue} → is_key c ≡ false → SeparateLines t n i j x → Separate t n c i j x

-- a rest of a line that holds a character: one step of a reader
pub record Row (t : List ℕ) (i j : ℕ) (x : List CommentValue) : Type 0 where
  pub rest : LineRest t i j x
  pub later : i < j

-- the rows that a reader has kept, from i to j; the list b holds the comments of a and then theirs
pub record RowsKept (t : List ℕ) (i j : ℕ) (a b : List CommentValue) : Type 0 where
  pub more : List CommentValue
  pub rows : Chain (Row t) i j more
  pub list : b ≡ a ++ more

-- s-separate-lines(n) from i; the prefix of its last line begins at or before p
pub data Upto (t : List ℕ) (n : ℤ) (i p : ℕ) : ℕ → List CommentValue → Type 0 where
  upto_line : {j : ℕ} → SeparateInLine t i j → Upto t n i p j []
  upto_lines : {h j : ℕ} {y : List CommentValue} → LineEnd t i h y → h ≤ p → FlowPrefix t n h j → Upto t n i p j y
