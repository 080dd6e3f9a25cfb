-- A block scalar among other lines: its header with the comment that trails it, its lines at a column, each with its
-- break, and the text after them: blank lines and comments, and then a line that is further left, or nothing.
use Rattle.std.specs.Prelude.{◌≡◌, ◌≢◌, ℕ, ◌<◌, true, List, [], ◌∷◌, ◌++◌, replicate, encode_utf8, Option, Some, None}
use Rattle.yf_chars.specs.Signs.{LINE_FEED, NUMBER_SIGN, SPACE}
use Rattle.yf_chars.specs.Class.{is_ns_char}
use Rattle.yf_comments.specs.GapLines.{GapLine, blank, remark, IsRemark}
use Rattle.yf_block_scalar.specs.declared.header.Header.{Header}
use Rattle.yf_block_scalar.specs.declared.header.Chomp.{Chomp}
use Rattle.yf_block_scalar.specs.declared.header.Chomp.TheVariants.{Strip, Clip, Keep}
use Rattle.yf_block_scalar.specs.Content.{feeds}
use Rattle.yf_block_scalar.specs.Written.{indented, style_bytes, digit_bytes, sign_bytes}

-- lines at the column, and r after them
abbrev pub lines_then : ℕ → List (List ℕ) → List ℕ → List ℕ
lines_then k [] r = r
lines_then k (x ∷ ls) r = indented k x ++ (LINE_FEED ∷ lines_then k ls r)

-- the comment that trails a header, if any, and the break
abbrev pub trail_then : Option (List ℕ) → List ℕ → List ℕ
trail_then None r = LINE_FEED ∷ r
trail_then (Some text) r = SPACE ∷ SPACE ∷ (text ++ (LINE_FEED ∷ r))

abbrev pub IsTrail : Option (List ℕ) → Type 0
IsTrail None = Unit {0}
IsTrail (Some text) = IsRemark text

abbrev pub trail_texts : Option (List ℕ) → List (List ℕ)
trail_texts None = []
trail_texts (Some text) = text ∷ []

-- nothing, or fewer than k spaces before a character that doesn't begin a comment
pub data Below (k : ℕ) : List ℕ → Type 0 where
  nothing_below : Below k []
  line_below : (m c : ℕ) (r : List ℕ) → m < k → is_ns_char c ≡ true → c ≢ NUMBER_SIGN → Below k (replicate m SPACE ++ (encode_utf8 c ++ r))

-- no blank line follows a scalar that keeps its final breaks, because it would be content
abbrev pub KeptGap : Chomp → List GapLine → Type 0
KeptGap Strip gap = Unit {0}
KeptGap Clip gap = Unit {0}
KeptGap Keep [] = Unit {0}
KeptGap Keep (blank ∷ gs) = ⊥
KeptGap Keep (remark column text ∷ gs) = Unit {0}

-- the bytes of a scalar and of the text after it; its lines are w columns right of the indentation around it
abbrev pub scalar_then : Header → ℕ → Option (List ℕ) → ℕ → List (List ℕ) → ℕ → List ℕ → List ℕ
scalar_then h w trail column lines count r =
    style_bytes h.folded ++ (digit_bytes h.digit w ++ (sign_bytes h.chomp ++ trail_then trail (lines_then column lines (feeds count ++ r))))
