-- Folded line breaks within flow scalars (YAML 1.2.2, 6.5), as their readers meet them: up to the first character after
-- them that is neither white space nor a break.
use Rattle.std.specs.Prelude.{◌≡◌, ℕ, zero, suc, ℤ, false, List, [], ◌∷◌}
use Rattle.yf_chars.specs.Signs.{LINE_FEED, SPACE}
use Rattle.yf_chars.specs.Text.{code}
use Rattle.yf_chars.specs.Class.{is_white}
use Rattle.yf_chars.specs.Chain.{Chain, Nowhere}
use Rattle.yf_chars.specs.declared.context.Ctx.TheVariants.{FlowIn}
use Rattle.yf_lines.specs.Basic.{Break, Empty, FlowPrefix, FlowFolded}

-- s-flow-folded(n), up to an offset without white space or a break
pub record FoldsTo (t : List ℕ) (n : ℤ) (i j : ℕ) (x : List ℕ) : Type 0 where
  pub folded : FlowFolded t n i j x
  pub no_white : is_white (code t j) ≡ false
  pub no_break : Nowhere (Break t j)

-- s-flow-line-prefix(n), up to an offset without white space or a break
pub record ContentAt (t : List ℕ) (n : ℤ) (i j : ℕ) : Type 0 where
  pub prefix : FlowPrefix t n i j
  pub no_white : is_white (code t j) ≡ false
  pub no_break : Nowhere (Break t j)

-- the text after the first break of a fold: empty lines, which mean x, and the indentation of the line after them
pub record FoldLines (t : List ℕ) (n : ℤ) (i j : ℕ) (x : List ℕ) : Type 0 where
  pub line : ℕ
  pub empties : Chain (Empty t n FlowIn) i line x
  pub content : ContentAt t n line j

-- k line feeds
abbrev pub line_feeds : ℕ → List ℕ
line_feeds zero = []
line_feeds (suc k) = LINE_FEED ∷ line_feeds k

-- the meaning of a fold: a space, or the line feeds of its empty lines
abbrev pub fold_of : List ℕ → List ℕ
fold_of [] = SPACE ∷ []
fold_of (c ∷ cs) = c ∷ cs

-- the meaning of a fold with k empty lines
abbrev pub fold_text : ℕ → List ℕ
fold_text k = fold_of (line_feeds k)
