-- The lines of a block scalar (YAML 1.2.2, sections 8.1.1.1, 8.1.2 and 8.1.3) as relations between byte offsets of a
-- text t. Each offset is the start of a line or the end of the text. n is the indentation of the collection around the
-- scalar, from -1; k is the number of spaces of the content's indentation.
use Rattle.std.specs.Prelude.{◌≡◌, ◌≢◌, ℕ, ◌+◌, ◌<◌, ◌≤◌, ℤ, pos, negsuc, max, Bool, true, false, nat_lt, List, [], ◌∷◌, ◌++◌, length, slice_range, Some, None}
use Rattle.yf_chars.specs.Signs.{BYTE_ORDER_MARK, NUMBER_SIGN, SPACE}
use Rattle.yf_chars.specs.Text.{code, next, no_char}
use Rattle.yf_chars.specs.Class.{is_nb_char}
use Rattle.yf_chars.specs.Chain.{Chain, Many, Stuck, Chosen, Nowhere}
use Rattle.yf_lines.specs.Basic.{Spaces, Break, is_marker}
use Rattle.yf_comments.specs.Comment.{CommentValue}
use Rattle.yf_comments.specs.Comments.{LineEnd}
use Rattle.yf_block_scalar.specs.declared.body.BlockText.{BlockText}
use Rattle.yf_block_scalar.specs.declared.header.Header.{Header}
use Rattle.yf_block_scalar.specs.declared.header.Chomp.{Chomp}
use Rattle.yf_block_scalar.specs.declared.header.Chomp.TheVariants.{Strip, Clip, Keep}

-- max(n, 0), the base of an indentation indicator
abbrev pub base : ℤ → ℕ
base (pos n) = n
base (negsuc m) = 0

-- n + 1, the least number of spaces of a detected indentation
abbrev pub least : ℤ → ℕ
least (pos n) = n + 1
least (negsuc m) = 0

-- a line of m spaces and nothing else, with its break
pub record SpaceLine (t : List ℕ) (i m j : ℕ) : Type 0 where
  pub spaces : Spaces t i m
  pub ends : Break t (i + m) j

-- such lines as steps of a chain, with their numbers of spaces
pub data EmptyLines (t : List ℕ) : ℕ → ℕ → List ℕ → Type 0 where
  bare : {i j : ℕ} (m : ℕ) → SpaceLine t i m j → EmptyLines t i j (m ∷ [])

abbrev pub largest : List ℕ → ℕ
largest [] = 0
largest (m ∷ ms) = max m (largest ms)

-- the end of a content line: a break, or the end of the text; the flag says whether the line is open
pub data Ends (t : List ℕ) : ℕ → ℕ → Bool → Type 0 where
  by_break : {h j : ℕ} → Break t h j → Ends t h j false
  by_text : {h : ℕ} → h ≡ length t → Ends t h h true

-- a content line: k spaces, then one or more nb-chars up to its end, without a document marker; its meaning is the
-- bytes after the k spaces
pub data LineContent (t : List ℕ) (k : ℕ) : ℕ → ℕ → List ℕ → Bool → Type 0 where
  content : {i h j : ℕ} {x : List ℕ} {o : Bool} → Spaces t i k → Many t is_nb_char (i + k) h x → i + k < h → Ends t h j o
      → is_marker t i ≡ false → LineContent t k i j (slice_range t (i + k) h) o

-- a line of the scalar: at most k spaces and nothing else (l-empty), or a content line
pub data Line (t : List ℕ) (k : ℕ) : ℕ → ℕ → List (List ℕ) → Type 0 where
  empty_line : {i j m : ℕ} → SpaceLine t i m j → m ≤ k → Line t k i j ([] ∷ [])
  content_line : {i j : ℕ} {x : List ℕ} {o : Bool} → LineContent t k i j x o → Line t k i j (x ∷ [])

-- the lines up to the last content line, and whether that one is open
pub data Lines (t : List ℕ) (k : ℕ) : ℕ → ℕ → List (List ℕ) → Bool → Type 0 where
  no_content : {i : ℕ} → Lines t k i i [] false
  up_to : {i h j : ℕ} {ls : List (List ℕ)} {x : List ℕ} {o : Bool} → Chain (Line t k) i h ls → LineContent t k h j x o
      → Lines t k i j (ls ++ x ∷ []) o

-- `count` empty lines
pub record Tail (t : List ℕ) (k i j count : ℕ) : Type 0 where
  pub widths : List ℕ
  pub lines : Chain (EmptyLines t) i j widths
  pub within : largest widths ≤ k
  pub counts : length widths ≡ count

-- the lines of the scalar and its tail, including every following line that may belong to them
pub record LinesTaken (t : List ℕ) (k i : ℕ) (ls : List (List ℕ)) (o : Bool) (count j : ℕ) : Type 0 where
  pub end : ℕ
  pub lines : Lines t k i end ls o
  pub tail : Tail t k end j count
  pub most : Stuck (Line t k j)

-- a character other than a space or a break
pub record Other (t : List ℕ) (i : ℕ) : Type 0 where
  pub inside : code t i ≢ no_char
  pub no_space : code t i ≢ SPACE
  pub no_break : Nowhere (Break t i)

-- a document marker begins the line, possibly after byte order marks
pub data MarkerLine (t : List ℕ) : ℕ → Type 0 where
  marker_here : {i : ℕ} → is_marker t i ≡ true → MarkerLine t i
  past_mark : {i : ℕ} → code t i ≡ BYTE_ORDER_MARK → MarkerLine t (next t i) → MarkerLine t i

-- a line with k spaces, at least n + 1, before another character, without a document marker
pub record IndentedLine (t : List ℕ) (n : ℤ) (i k : ℕ) : Type 0 where
  pub spaces : Spaces t i k
  pub other : Other t (i + k)
  pub deep : least n ≤ k
  pub clear : MarkerLine t i → ⊥

-- the detected indentation: that of the first line with a character other than a space; no earlier line has more than k
-- spaces
pub record DetectedIndent (t : List ℕ) (n : ℤ) (i k : ℕ) : Type 0 where
  pub at : ℕ
  pub widths : List ℕ
  pub before : Chain (EmptyLines t) i at widths
  pub within : largest widths ≤ k
  pub first : IndentedLine t n at k

-- a line without a detected indentation: it is the last one and holds only spaces or nothing, or has fewer than n + 1
-- spaces before another character, or begins with a document marker
pub data Shallow (t : List ℕ) (n : ℤ) (i : ℕ) : Type 0 where
  missing : (m : ℕ) → Spaces t i m → i + m ≡ length t → Shallow t n i
  left_of : (m : ℕ) → Spaces t i m → Other t (i + m) → m < least n → Shallow t n i
  forbidden : MarkerLine t i → Shallow t n i

-- whether a comment after the lines of a scalar has a blank line before it: the empty lines of a kept tail are content
abbrev pub is_gap_tail : Chomp → ℕ → Bool
is_gap_tail Strip count = nat_lt 0 count
is_gap_tail Clip count = nat_lt 0 count
is_gap_tail Keep count = false

abbrev pub first_noted : Bool → List CommentValue → List CommentValue
first_noted b [] = []
first_noted b (c ∷ cs) = record c { blank_before = b } ∷ cs

-- the comment lines after the tail, if the next line is a comment with fewer than k spaces before its #
-- (l-trail-comments)
pub data Trail (t : List ℕ) (k : ℕ) : ℕ → ℕ → List CommentValue → Type 0 where
  comments : {i j : ℕ} {x : List CommentValue} (m : ℕ) → m < k → Spaces t i m → code t (i + m) ≡ NUMBER_SIGN
      → Chosen (LineEnd t i) j x → Trail t k i j x
  no_comment : {i : ℕ} → ((m : ℕ) → m < k → Spaces t i m → code t (i + m) ≢ NUMBER_SIGN) → Trail t k i i []

-- the meaning of the lines after a header
pub record BodyValue : Type 0 where
  pub lines : List (List ℕ)
  pub open_end : Bool
  pub tail : ℕ
  pub comments : List CommentValue

-- the lines of the scalar with that header, from the line after the header to the first line after the scalar and its
-- comments
pub data Body (t : List ℕ) (n : ℤ) (h : Header) : ℕ → ℕ → BodyValue → Type 0 where
  indicated : {i p j d count : ℕ} {ls : List (List ℕ)} {o : Bool} {x : List CommentValue} → h.digit ≡ Some d
      → LinesTaken t (base n + d) i ls o count p → Trail t (base n + d) p j x
      → Body t n h i j (record { lines = ls; open_end = o; tail = count; comments = first_noted (is_gap_tail h.chomp count) x })
  detected : {i p j k count : ℕ} {ls : List (List ℕ)} {o : Bool} {x : List CommentValue} → h.digit ≡ None
      → DetectedIndent t n i k → LinesTaken t k i ls o count p → Trail t k p j x
      → Body t n h i j (record { lines = ls; open_end = o; tail = count; comments = first_noted (is_gap_tail h.chomp count) x })
  without_content : {i p j : ℕ} {widths : List ℕ} {x : List CommentValue} → h.digit ≡ None
      → Chain (EmptyLines t) i p widths → Shallow t n p → Trail t (least n) p j x
      → Body t n h i j (record { lines = []; open_end = false; tail = length widths; comments = first_noted (is_gap_tail h.chomp (length widths)) x })

-- a block scalar in contracts: its lines, without its header
abbrev pub body_value : BlockText → BodyValue
body_value b = record { lines = b.lines; open_end = b.open_end; tail = b.tail; comments = b.comments }
