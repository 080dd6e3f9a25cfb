-- The meanings of the conditions of the productions: `letter` for the standard's text without reading rules, for which
-- a reading rule requires nothing, and `read` with the reading rules (docs/STANDARD.md).
use Rattle.std.specs.Prelude.{◌≡◌, ◌≢◌, ℕ, ◌+◌, ◌-◌, ℤ, pos, ◌≤ℤ◌, ◌<◌, ◌≤◌, ⊤, Bool, true, false, ◌==◌, ◌&&◌, List, length}
use Rattle.yf_chars.specs.Text.{code, before}
use Rattle.yf_chars.specs.declared.context.Ctx.TheVariants.{BlockIn}
use Rattle.yf_chars.specs.Class.{is_anchor_char, is_ns_char, is_white_or_end}
use Rattle.yf_chars.specs.Chain.{Chain, Stuck}
use Rattle.yf_lines.specs.Basic.{LineStart, Spaces, FoldedBreak}
use Rattle.yf_comments.specs.Comments.{CommentText, BreakOrEnd, CommentLine}
use Rattle.yf_comments.specs.Comment.{CommentValue}
use Rattle.yf_props.specs.Names.{TagChar}
use Rattle.yf_block_scalar.specs.Body.{base, least, largest, Line, LineContent, DetectedIndent, EmptyLines, Shallow}
use Rattle.yf_standard.specs.Notation.{Condition}
use Rattle.yf_standard.specs.Notation.Condition.{start-of-line, end-of-input, lookahead=, lookahead≠, lookbehind=, not-before-line-feed, not-after-carriage-return, name-ends, tag-ends, reserved-name, no-line, no-comment-line, no-trail, no-folded-line, auto-detect, is-sum, no-value, sign-ends, no-comment}

-- a `:` of an explicit entry at n is on the line that begins at the offset
pub record ValueLine (t : List ℕ) (n : ℤ) (i : ℕ) : Type 0 where
  pub m : ℕ
  pub column : n ≡ pos m
  pub indent : Spaces t i m
  pub colon : code t (i + m) ≡ 58
  pub follows : is_white_or_end (code t (i + m + 1)) ≡ true

-- no further line of a scalar with that indentation
pub record NoLine (t : List ℕ) (n : ℤ) (i : ℕ) : Type 0 where
  pub none : (k : ℕ) → n ≡ pos k → Stuck (Line t k i)

-- no further comment line that holds a character
pub record NoCommentLine (t : List ℕ) (i : ℕ) : Type 0 where
  pub none : (j : ℕ) (x : List CommentValue) → CommentLine t i j x → i < j → ⊥

-- no comment line with fewer spaces
pub record NoTrail (t : List ℕ) (n : ℤ) (i : ℕ) : Type 0 where
  pub none : (k m h j : ℕ) (x : List CommentValue) → n ≡ pos k → m < k → Spaces t i m → CommentText t (i + m) h x → BreakOrEnd t h j → ⊥

-- no further line with that indentation, after a break and empty lines, begins with a visible character; a document
-- marker begins none
pub record NoFoldedLine (t : List ℕ) (n : ℤ) (i : ℕ) : Type 0 where
  pub none : (k h j : ℕ) (x y : List ℕ) (o : Bool) → n ≡ pos k → FoldedBreak t n BlockIn i h x → LineContent t k h j y o → is_ns_char (code t (h + k)) ≡ true → ⊥

-- 8.1.1.1: the lines from the offset on are indented by k; if none has content, all lines that have only spaces are
-- empty lines
pub data AutoDetect (t : List ℕ) (n : ℤ) (i : ℕ) : ℤ → Type 0 where
  by_first_line : {k : ℕ} → DetectedIndent t n i k → AutoDetect t n i (pos k)
  without_content : {k p : ℕ} {widths : List ℕ} → Chain (EmptyLines t) i p widths → Shallow t n p → largest widths ≤ k → least n ≤ k
      → NoLine t (pos k) p → AutoDetect t n i (pos k)

-- the text doesn't begin with YAML or TAG and white space
unfoldable pub is_name_yaml : List ℕ → ℕ → Bool
is_name_yaml t i = (code t i == 89) && ((code t (i + 1) == 65) && ((code t (i + 2) == 77) && ((code t (i + 3) == 76) && is_white_or_end (code t (i + 4)))))

unfoldable pub is_name_tag : List ℕ → ℕ → Bool
is_name_tag t i = (code t i == 84) && ((code t (i + 1) == 65) && ((code t (i + 2) == 71) && is_white_or_end (code t (i + 3))))

-- with the reading rules
unfoldable pub read : List ℕ → Condition → ℕ → Type 0
read t start-of-line i = LineStart t i
read t end-of-input i = i ≡ length t
read t (lookahead= s) i = s (code t i) ≡ true
read t (lookahead≠ s) i = s (code t i) ≡ false
read t (lookbehind= s) i = s (before t i) ≡ true
read t not-before-line-feed i = code t i ≢ 10
read t not-after-carriage-return i = code t (i - 1) ≢ 13
read t name-ends i = is_anchor_char (code t i) ≡ false
read t tag-ends i = Stuck (TagChar t i)
read t reserved-name i = (is_name_yaml t i ≡ false) × (is_name_tag t i ≡ false)
read t (no-line n) i = NoLine t n i
read t no-comment-line i = NoCommentLine t i
read t (no-trail n) i = NoTrail t n i
read t (no-folded-line n) i = NoFoldedLine t n i
read t (auto-detect n k) i = AutoDetect t n i k
read t (is-sum n m k) i = k ≡ pos (base n + m)
read t (no-value n) i = ValueLine t n i → ⊥
read t sign-ends i = is_white_or_end (code t i) ≡ true
read t no-comment i = code t i ≢ 35

-- the standard's letter, with two of its words read as `read` reads them: the start of a line (6.2), which also follows
-- byte order marks, and n + m (8.1.1.1) if n is -1
unfoldable pub letter : List ℕ → Condition → ℕ → Type 0
letter t start-of-line i = LineStart t i
letter t end-of-input i = i ≡ length t
letter t (lookahead= s) i = s (code t i) ≡ true
letter t (lookahead≠ s) i = s (code t i) ≡ false
letter t (lookbehind= s) i = s (before t i) ≡ true
letter t (is-sum n m k) i = k ≡ pos (base n + m)
letter t (auto-detect n k) i = pos (least n) ≤ℤ k
letter t c i = ⊤
