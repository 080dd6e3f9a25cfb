-- The header of a block scalar (YAML 1.2.2, section 8.1.1) as relations between byte offsets of a text t.
use Rattle.std.specs.Prelude.{◌≡◌, ℕ, ◌+◌, ◌-◌, Bool, true, false, List, Option, Some, None}
use Rattle.yf_chars.specs.Signs.{BAR, DASH, GREATER, PLUS}
use Rattle.yf_chars.specs.Text.{code}
use Rattle.yf_chars.specs.Class.{is_between}
use Rattle.yf_comments.specs.declared.comment.Comment.{Comment}
use Rattle.yf_comments.specs.Comment.{CommentValue, row_comments}
use Rattle.yf_comments.specs.Comments.{LineRest}
use Rattle.yf_block_scalar.specs.declared.header.Header.{Header}
use Rattle.yf_block_scalar.specs.declared.header.Chomp.{Chomp}
use Rattle.yf_block_scalar.specs.declared.header.Chomp.TheVariants.{Strip, Clip, Keep}

-- c-literal or c-folded; the flag is true for c-folded
pub data Style (t : List ℕ) : ℕ → ℕ → Bool → Type 0 where
  literal_sign : {i : ℕ} → code t i ≡ BAR → Style t i (i + 1) false
  folded_sign : {i : ℕ} → code t i ≡ GREATER → Style t i (i + 1) true

-- c-indentation-indicator: a digit from 1 to 9
pub data Digit (t : List ℕ) : ℕ → ℕ → ℕ → Type 0 where
  digit : {i : ℕ} → is_between 49 57 (code t i) ≡ true → Digit t i (i + 1) (code t i - 48)

-- c-chomping-indicator
pub data Sign (t : List ℕ) : ℕ → ℕ → Chomp → Type 0 where
  strip_sign : {i : ℕ} → code t i ≡ DASH → Sign t i (i + 1) Strip
  keep_sign : {i : ℕ} → code t i ≡ PLUS → Sign t i (i + 1) Keep

-- each indicator at most once, in either order
pub data Indicators (t : List ℕ) : ℕ → ℕ → Option ℕ → Chomp → Type 0 where
  neither : {i : ℕ} → Indicators t i i None Clip
  digit_alone : {i j d : ℕ} → Digit t i j d → Indicators t i j (Some d) Clip
  sign_alone : {i j : ℕ} {c : Chomp} → Sign t i j c → Indicators t i j None c
  digit_sign : {i h j d : ℕ} {c : Chomp} → Digit t i h d → Sign t h j c → Indicators t i j (Some d) c
  sign_digit : {i h j d : ℕ} {c : Chomp} → Sign t i h c → Digit t h j d → Indicators t i j (Some d) c

-- the meaning of a header, and the comments after it: one or none
pub record HeaderValue : Type 0 where
  pub header : Header
  pub comments : List CommentValue

-- c-b-block-header with the style before it
pub data BlockHeader (t : List ℕ) : ℕ → ℕ → HeaderValue → Type 0 where
  block_header : {i h k j : ℕ} {f : Bool} {d : Option ℕ} {c : Chomp} {x : List CommentValue} → Style t i h f
      → Indicators t h k d c → LineRest t k j x
      → BlockHeader t i j (record { header = record { folded = f; digit = d; chomp = c }; comments = x })

-- the value in a contract: a header and at most one comment
abbrev pub header_value : Header → Option Comment → HeaderValue
header_value h c = record { header = h; comments = row_comments c }
