-- The bytes of a block scalar (YAML 1.2.2, section 8.1) that is written at a column, counted from 0. The width, 1 to 9,
-- is the number of columns right of the indentation around it.
use Rattle.std.specs.Prelude.{length, ◌≡◌, ◌≢◌, ℕ, ◌+◌, ◌-◌, ℤ, Bool, true, List, [], ◌∷◌, ◌++◌, map, replicate, if◌then◌else◌, Option, Some, None}
pub use Rattle.yf_lines.specs.LineText.{AllNb, IsLineText}
use Rattle.yf_chars.specs.Signs.{BAR, DASH, GREATER, LINE_FEED, NUMBER_SIGN, PLUS, SPACE}
use Rattle.yf_comments.specs.declared.comment.Comment.{Comment}
use Rattle.yf_block_scalar.specs.declared.body.BlockText.{BlockText}
use Rattle.yf_block_scalar.specs.declared.header.Header.{Header}
use Rattle.yf_block_scalar.specs.declared.header.Chomp.{Chomp}
use Rattle.yf_block_scalar.specs.declared.header.Chomp.TheVariants.{Strip, Clip, Keep}
use Rattle.yf_block_scalar.specs.Body.{base, Body, BodyValue}
use Rattle.yf_block_scalar.specs.Header.{BlockHeader, HeaderValue}
use Rattle.yf_block_scalar.specs.Content.{feeds, literal, content_of}

abbrev pub style_bytes : Bool → List ℕ
style_bytes b = if b then GREATER ∷ [] else BAR ∷ []

-- the digit of a header with a digit is the width
abbrev pub digit_bytes : Option ℕ → ℕ → List ℕ
digit_bytes None width = []
digit_bytes (Some d) width = (48 + width) ∷ []

abbrev pub sign_bytes : Chomp → List ℕ
sign_bytes Strip = DASH ∷ []
sign_bytes Clip = []
sign_bytes Keep = PLUS ∷ []

-- a comment follows two spaces
abbrev pub comment_bytes : Option Comment → List ℕ
comment_bytes None = []
comment_bytes (Some c) = SPACE ∷ SPACE ∷ c.text.now

abbrev pub header_bytes : Header → Option Comment → ℕ → List ℕ
header_bytes h c width = style_bytes h.folded ++ digit_bytes h.digit width ++ sign_bytes h.chomp ++ comment_bytes c ++ LINE_FEED ∷ []

-- a line at the column; an empty line has no spaces
abbrev pub indented : ℕ → List ℕ → List ℕ
indented column [] = []
indented column (c ∷ x) = replicate column SPACE ++ (c ∷ x)

-- only a kept scalar has its tail
abbrev pub tail_bytes : Chomp → ℕ → List ℕ
tail_bytes Strip tail = []
tail_bytes Clip tail = []
tail_bytes Keep tail = feeds tail

-- the break after the last content line; if that line ended at the end of the text, only a stripped scalar has one
abbrev pub break_bytes : Chomp → Bool → List ℕ
break_bytes Strip open_end = LINE_FEED ∷ []
break_bytes Clip open_end = if open_end then [] else LINE_FEED ∷ []
break_bytes Keep open_end = if open_end then [] else LINE_FEED ∷ []

abbrev pub body_bytes : Chomp → List (List ℕ) → ℕ → Bool → ℕ → List ℕ
body_bytes c [] tail open_end column = tail_bytes c tail
body_bytes c (x ∷ ls) tail open_end column = literal (map (indented column) (x ∷ ls)) ++ break_bytes c open_end ++ tail_bytes c tail

abbrev pub written_of : BlockText → ℕ → ℤ → List ℕ
written_of b column n = header_bytes b.header b.comment (column - base n) ++ body_bytes b.header.chomp b.lines b.tail b.open_end column

abbrev pub AreLineTexts : List (List ℕ) → Type 0
AreLineTexts [] = Unit {0}
AreLineTexts (x ∷ ls) = IsLineText x × AreLineTexts ls

-- the last line is a content line
abbrev pub EndsWithContent : List (List ℕ) → Type 0
EndsWithContent [] = ⊥
EndsWithContent (x ∷ []) = x ≢ []
EndsWithContent (x ∷ y ∷ ls) = EndsWithContent (y ∷ ls)

-- the first content line doesn't begin with a space
abbrev pub StartsUnspaced : List (List ℕ) → Type 0
StartsUnspaced [] = ⊥
StartsUnspaced ([] ∷ ls) = StartsUnspaced ls
StartsUnspaced ((c ∷ x) ∷ ls) = c ≢ SPACE

-- the text of a comment: # and nb-chars
abbrev pub IsCommentText : Option Comment → Type 0
IsCommentText None = Unit {0}
IsCommentText (Some c) = (x : List ℕ) × ((c.text.now ≡ NUMBER_SIGN ∷ x) × IsLineText x)

-- a scalar with a content line, as in a text: its lines and comment are of nb-chars, the indentation to detect is that
-- of its first content line, and nothing follows a line that ends at the end of the text
pub record IsScalar (b : BlockText) : Type 0 where
  pub lines : AreLineTexts b.lines
  pub last : EndsWithContent b.lines
  pub first : b.header.digit ≡ None → StartsUnspaced b.lines
  pub comment : IsCommentText b.comment
  pub follows : b.open_end ≡ true → b.tail ≡ 0

-- the text is a block scalar at n with equal content: its header begins the text, and its lines reach the end
pub record IsRead (t : List ℕ) (n : ℤ) (b : BlockText) : Type 0 where
  pub place : ℕ
  pub header : HeaderValue
  pub body : BodyValue
  pub head : BlockHeader t 0 place header
  pub rest : Body t n header.header place (length t) body
  pub same : content_of header.header body.lines body.tail body.open_end ≡ content_of b.header b.lines b.tail b.open_end
