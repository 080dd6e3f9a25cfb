-- The comments between the rows of a layout are at multiples of the indentation, as the rows are.
use Rattle.std.proofs.Common.{◌≡◌, ℕ, ◌+◌, Bool, List, [], ◌∷◌, subst}
use Rattle.yf_comments.specs.Comment.{CommentValue}
use Rattle.yf_comments.specs.GapLines.{GapLine, blank, remark}
use Rattle.yf_forms.specs.declared.style.Style.{Style}
use Rattle.yf_laws.specs.Layouts.Decorated.{Deco, decos_of, gap_of}
use Rattle.yf_laws.specs.Layouts.Layout.{Source}
use Rattle.yf_print.specs.Layouts.Rows.{Ending, Row}
use Rattle.yf_laws.specs.Preservation.TidyLines.{BlockScalar}
use Rattle.yf_print.specs.Layouts.KeptColumns.{Columns}
use Rattle.yf_laws.proofs.OutputLines.ColumnsHold.{AllBlocks, GapHolds, WalkFrom, after_blocks, blank_holds, blocks_map, gap_columns, left_walk, none_holds, remark_holds}
use Rattle.yf_print.specs.declared.open_blocks.OpenBlock.{OpenBlock}
use Rattle.yf_laws.proofs.SameReading.CommentsCut.{Each}
use Rattle.yf_laws.proofs.Keeps.RowColumns.{IsStep, Stepped, none_stepped, row_stepped, no_step}

module _ (indent limit : ℕ) where
  pub data GapSteps : List GapLine → Type 0 where
    no_gap : GapSteps []
    blank_step : {gs : List GapLine} → GapSteps gs → GapSteps (blank ∷ gs)
    remark_step : {column : ℕ} {text : List ℕ} {gs : List GapLine} → IsStep indent limit column → GapSteps gs → GapSteps (remark column text ∷ gs)

  pub data DecoSteps : List Deco → Type 0 where
    no_decos : DecoSteps []
    more_decos : {d : Deco} {ds : List Deco} → GapSteps d.gap → DecoSteps ds → DecoSteps (d ∷ ds)

  gap_steps : {gs : List GapLine} → GapHolds (IsStep indent limit) gs → GapSteps gs
  gap_steps none_holds = no_gap
  gap_steps (blank_holds h) = blank_step (gap_steps h)
  gap_steps (remark_holds a h) = remark_step a (gap_steps h)

-- the open collections are at such columns, and so is their content
abbrev pub BlockSteps : ℕ → ℕ → List OpenBlock → Type 0
BlockSteps indent limit bs = AllBlocks (λ k. IsStep indent limit k × IsStep indent limit (k + indent)) bs

module _ (limit : ℕ) (t : List ℕ) (s : Style) (g : Columns) where
  first_column : {bs : List BlockScalar} {xs : List Row} (row : Row) (others : List Row) → xs ≡ row ∷ others → Stepped s.indent limit bs xs → IsStep s.indent limit row.column
  first_column row others e none_stepped = absurd cc
  first_column row others e (row_stepped {x = x} b h c more) = let same : x ≡ row = cc in subst (λ (z : Row). IsStep s.indent limit z.column) same b

  pub gap_stepped : {bs : List BlockScalar} {os : List OpenBlock} {may : Bool} (before : Ending) {cs : List CommentValue} {xs : List Row} → Each (WalkFrom t s g os may xs) cs → BlockSteps s.indent limit os → Stepped s.indent limit bs xs
      → GapSteps s.indent limit (gap_of g before cs xs)
  gap_stepped before {xs = xs} w o a =
      gap_steps s.indent limit (gap_columns (IsStep s.indent limit) t s before xs w no_step (λ row others e. first_column row others e a) (blocks_map (λ k p. p.0) o) (λ e. blocks_map (λ k p. p.1) o))

  pub decos_stepped : {bs : List BlockScalar} {os : List OpenBlock} {may : Bool} (c : Source) {cs : List CommentValue} {xs : List Row} → Each (WalkFrom t s g os may xs) cs → BlockSteps s.indent limit os → Stepped s.indent limit bs xs
      → DecoSteps s.indent limit (decos_of g c cs xs)
  decos_stepped c w o none_stepped = no_decos
  decos_stepped c w o (row_stepped {x = x} a h b more) =
      more_decos (gap_stepped x.ending (left_walk w) (after_blocks t x h o) more) (decos_stepped c (left_walk w) (after_blocks t x h o) more)
