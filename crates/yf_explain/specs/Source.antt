-- A line of a text with a caret under one of its characters.
use Rattle.std.specs.Prelude.{◌≡◌, ℕ, zero, suc, ◌+◌, ◌≤◌, List, [], ◌∷◌, ◌++◌, Bool, true, false, length, codes}
use Rattle.std.specs.List.{concat}
use Rattle.std.specs.Str.{IsCharBoundary}
use Rattle.yf_chars.specs.Chain.{Many}
use Rattle.yf_lines.specs.Lines.{NoBreakIn, is_char}
use Rattle.yf_explain.specs.Shown.{all_shown, columns}

-- the characters of a part of a text were added as they are shown, from an offset on
-- from: the offset; to: the end of the part at the latest; most: the most columns; old, new: the page before and after;
-- end, taken: the end of the part that was added, and its columns
pub record AddsPart (t : List ℕ) (from to most : ℕ) (old new : List ℕ) (end taken : ℕ) : Type 0 where
  pub characters : List ℕ
  pub run : Many t is_char from end characters
  pub added : new ≡ old ++ all_shown characters
  pub takes : taken ≡ columns characters
  pub room : taken ≤ most
  pub within : end ≤ to
  pub boundary : IsCharBoundary t end

-- the text before each line of the source
abbrev pub gutter : List ℕ
gutter = codes "  | "

-- the text that replaces a part that is cut off
abbrev pub dots : Bool → List ℕ
dots true = codes "..."
dots false = []

unfoldable pub spaces : ℕ → List ℕ
spaces zero = []
spaces (suc n) = spaces n ++ 32 ∷ []

-- the line with the caret after n columns
abbrev pub caret : ℕ → List ℕ
caret n = gutter ++ (spaces n ++ (94 ∷ 10 ∷ []))

-- the line of the source, which may be cut on both sides: the characters before the offset, and those from the offset
-- on
abbrev pub source : Bool → List ℕ → List ℕ → Bool → List ℕ
source cut before after shortened = gutter ++ (dots cut ++ (all_shown before ++ (all_shown after ++ (dots shortened ++ 10 ∷ []))))

-- such a line was added, and `indent` columns of it, after the gutter, are before the offset
pub record AddsLine (t : List ℕ) (at : ℕ) (old new : List ℕ) (indent : ℕ) : Type 0 where
  pub start : ℕ
  pub stop : ℕ
  pub before : List ℕ
  pub after : List ℕ
  pub cut : Bool
  pub shortened : Bool
  pub left : Many t is_char start at before
  pub right : Many t is_char at stop after
  pub unbroken : NoBreakIn t start stop
  pub added : new ≡ old ++ source cut before after shortened
  pub columns_before : indent ≡ length (dots cut) + columns before
  pub room : columns before + columns after ≤ 68

-- such a line and the line of the caret were added
pub record AddsSource (t : List ℕ) (at : ℕ) (old new : List ℕ) : Type 0 where
  pub between : List ℕ
  pub indent : ℕ
  pub line : AddsLine t at old between indent
  pub added : new ≡ between ++ caret indent
