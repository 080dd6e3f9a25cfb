-- The lines that are written between two lines with nodes: blank lines and indented comments.
use Rattle.std.specs.Prelude.{◌≡◌, ℕ, ◌<◌, List, [], ◌∷◌, ◌++◌, replicate}
use Rattle.yf_chars.specs.Signs.{LINE_FEED, NUMBER_SIGN, SPACE}
use Rattle.yf_lines.specs.LineText.{IsLineText}

pub data GapLine : Type 0 where
  blank : GapLine
  remark : ℕ → List ℕ → GapLine

-- the bytes of the lines, and r after them
abbrev pub gap_then : List GapLine → List ℕ → List ℕ
gap_then [] r = r
gap_then (blank ∷ gs) r = LINE_FEED ∷ gap_then gs r
gap_then (remark column text ∷ gs) r = replicate column SPACE ++ (text ++ (LINE_FEED ∷ gap_then gs r))

-- a comment's text: # and nb-chars
pub record IsRemark (text : List ℕ) : Type 0 where
  pub follows : List ℕ
  pub is : text ≡ NUMBER_SIGN ∷ follows
  pub line : IsLineText follows

abbrev pub AreGapLines : List GapLine → Type 0
AreGapLines [] = Unit {0}
AreGapLines (blank ∷ gs) = AreGapLines gs
AreGapLines (remark column text ∷ gs) = IsRemark text × AreGapLines gs

-- each comment is left of the column
abbrev pub AllLeft : ℕ → List GapLine → Type 0
AllLeft k [] = Unit {0}
AllLeft k (blank ∷ gs) = AllLeft k gs
AllLeft k (remark column text ∷ gs) = (column < k) × AllLeft k gs

-- the texts of the comments, in order
abbrev pub remarks_of : List GapLine → List (List ℕ)
remarks_of [] = []
remarks_of (blank ∷ gs) = remarks_of gs
remarks_of (remark column text ∷ gs) = text ∷ remarks_of gs
