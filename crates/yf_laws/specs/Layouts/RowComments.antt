-- What the rows of a layout may carry after them, and the comments that they carry.
use Rattle.std.specs.Prelude.{◌≡◌, ℕ, false, List, [], ◌∷◌, ◌++◌, map}
use Rattle.yf_comments.specs.Comment.{CommentValue}
use Rattle.yf_comments.specs.GapLines.{IsRemark, AreGapLines, AllLeft, remarks_of}
use Rattle.yf_block_scalar.specs.Placed.{Below, KeptGap}
use Rattle.yf_block_scalar.specs.declared.header.Chomp.TheVariants.{Keep}
use Rattle.yf_laws.specs.Layouts.Decorated.{GapLine, Deco, first, after, lines_then}
use Rattle.yf_laws.specs.Layouts.Layout.{Source, may_be_blank_after, trailing}
use Rattle.yf_forms.specs.Nodes.Lines.{trimmed}
use Rattle.yf_print.specs.Layouts.Rows.{Row, Ending}

-- at most one comment trails a row
abbrev pub AreTrails : List (List ℕ) → Type 0
AreTrails [] = Unit {0}
AreTrails (x ∷ []) = IsRemark x
AreTrails (x ∷ y ∷ zs) = ⊥

pub record IsDeco (d : Deco) : Type 0 where
  pub trails : AreTrails d.trails
  pub gap : AreGapLines d.gap

pub data AreDecos : List Deco → Type 0 where
  nothing_carried : AreDecos []
  one_carried : {d : Deco} {ds : List Deco} → IsDeco d → AreDecos ds → AreDecos (d ∷ ds)

-- the texts of the comments that a row carries, and that rows carry
abbrev pub carried_texts : Deco → List (List ℕ)
carried_texts d = d.trails ++ remarks_of d.gap

abbrev pub comments_in : List Row → List Deco → List (List ℕ)
comments_in [] ds = []
comments_in (x ∷ xs) ds = carried_texts (first ds) ++ comments_in xs (after ds)

-- After the lines of a block scalar at the column, comments and the next line are further left, and no blank line
-- follows a kept tail; r is what follows the gap.
abbrev pub CalmBody : List (List ℕ) → ℕ → Ending → List GapLine → List ℕ → Type 0
CalmBody [] column ending gap r = Unit {0}
CalmBody (l ∷ ls) column ending gap r = AllLeft column gap × (Below column r × (may_be_blank_after ending ≡ false → KeptGap Keep gap))

-- this holds after each of these rows
abbrev pub Calm : List Row → List Deco → List ℕ → Type 0
Calm [] ds r = Unit {0}
Calm (x ∷ xs) ds r = CalmBody x.body x.lines x.ending (first ds).gap (lines_then xs (after ds) r) × Calm xs (after ds) r

-- the comments are texts of comments, and at most one of them trails each row
pub data AreRemarks : List CommentValue → Type 0 where
  no_remark : AreRemarks []
  one_remark : {c : CommentValue} {cs : List CommentValue} → IsRemark (trimmed c.text) → AreRemarks cs → AreRemarks (c ∷ cs)

abbrev pub TrailsFit : Source → List Row → Type 0
TrailsFit c [] = Unit {0}
TrailsFit c (row ∷ rows) = AreTrails (map (λ d. trimmed d.text) (trailing c row)) × TrailsFit c rows
