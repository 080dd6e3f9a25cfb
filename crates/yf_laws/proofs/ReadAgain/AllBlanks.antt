-- The lines of a laid-out text between its rows, with the comments that are found on them and the notes on blank lines.
use Rattle.std.proofs.Common.{◌≡◌, ℕ, Bool, false, List, [], ◌∷◌, ◌++◌}
use Rattle.yf_comments.specs.Comment.{CommentValue}
use Rattle.yf_comments.specs.GapLines.{GapLine, remarks_of}
use Rattle.yf_comments.proofs.GapLinesLemmas.{texts}
use Rattle.yf_laws.specs.Layouts.Decorated.{Deco}
use Rattle.yf_laws.specs.Layouts.Layout.{may_be_blank_after}
use Rattle.yf_print.specs.Layouts.Rows.{Row}
use Rattle.yf_laws.proofs.ReadAgain.CarriedAgain.{Owns, all_of, standing_of}
use Rattle.yf_laws.proofs.ReadAgain.GapsAgain.{Blanks}
use Rattle.yf_laws.proofs.RowNodes.PlacedRows.{PlacedRow}

-- those after each row
pub data AllBlanks (t : List ℕ) : List Row → List Deco → List (List CommentValue) → Type 0 where
  no_blanks : AllBlanks t [] [] []
  last_blanks : {row : Row} {d : Deco} {own : List CommentValue} → Blanks t (may_be_blank_after row.ending) false d.gap (standing_of d own) false → AllBlanks t (row ∷ []) (d ∷ []) (own ∷ [])
  row_blanks : {row next : Row} {rows : List Row} {d : Deco} {ds : List Deco} {own : List CommentValue} {owns : List (List CommentValue)}
      → Blanks t (may_be_blank_after row.ending) false d.gap (standing_of d own) next.blank_before → AllBlanks t (next ∷ rows) ds owns → AllBlanks t (row ∷ next ∷ rows) (d ∷ ds) (own ∷ owns)

abbrev pub first_blank : List Row → Bool
first_blank [] = false
first_blank (row ∷ rows) = row.blank_before

-- for the comments cs of a reading with these rows, however they are split: those before the first row, and those after
-- each
pub record BlanksFound (t : List ℕ) (cs : List CommentValue) (gap : List GapLine) (ds : List Deco) (rows : List Row) (ps : List PlacedRow) (line end : ℕ) : Type 0 where
  pub first : (firsts rest : List CommentValue) → cs ≡ firsts ++ rest → texts firsts ≡ remarks_of gap → Blanks t false false gap firsts (first_blank rows)
  pub after : (firsts : List CommentValue) (owns : List (List CommentValue)) → cs ≡ firsts ++ all_of owns → texts firsts ≡ remarks_of gap → Owns ps ds line owns end → AllBlanks t rows ds owns
