-- What the rows of a reading carry, if its comments are those of the rows of a laid-out text: equal before the first
-- row, and equal after each.
use Rattle.std.proofs.Common.{◌≡◌, ℕ, Bool, true, false, List, [], ◌∷◌, ◌++◌, flat_map, map, refl, ap, ◌∙◌, arith}
use Rattle.std.specs.Prelude.{filter}
use Rattle.yf_comments.specs.Comment.{CommentValue}
use Rattle.yf_comments.specs.GapLines.{GapLine, remarks_of}
use Rattle.yf_comments.proofs.GapLinesLemmas.{texts}
use Rattle.yf_events.specs.declared.lists.Lists.{Lists}
use Rattle.yf_laws.specs.Layouts.Decorated.{Deco, comments_left, first_gap, gap_of, row_decos}
use Rattle.yf_laws.specs.Layouts.Layout.{Source, own_line_comments, source_of, trailing}
use Rattle.yf_print.specs.Layouts.Rows.{Row, at_text_start}
use Rattle.yf_laws.proofs.SameReading.CommentsCut.{Each, each_none, Under, Upward, upward_none, upward_more, own_of}
use Rattle.yf_laws.proofs.ReadAgain.GapsAgain.{Blanks, gap_at_end, gap_with}
use Rattle.yf_laws.proofs.RowNodes.PlacedRows.{PlacedRow}
use Rattle.yf_laws.proofs.ReadAgain.RowsAgain.{AllStay, stays_end, stays_row, Apart, Carry, apart_gap, apart_left, decos_again, gap_is, merged_own, merged_stand, stay_at_end, stay_before, walk_after}
use Rattle.yf_laws.proofs.ReadAgain.CarriedAgain.{CarryAgain, NextTied, Owns, Tied, all_of, all_standing, carry_again, cut_over, first_from, first_over, next_apart, none_is_at, owns_upward, upward_join}
use Rattle.yf_print.specs.Layouts.KeptColumns.{Columns}
use Rattle.yf_forms.specs.declared.style.Style.{Style}
use Rattle.yf_laws.proofs.OutputLines.ColumnsHold.{WalkFrom, every as each_all}

-- The comments of q on lines of their own between its rows in the text t: those before the first row, and those after
-- each. g are the columns that were laid out.
pub data OwnCarried (t : List ℕ) (g : Columns) (q : Lists) : List Row → List GapLine → List Deco → Type 0 where
  alone_carried : {gap : List GapLine} (firsts : List CommentValue) → own_line_comments (source_of q []) [] ≡ firsts → Blanks t false false gap firsts false → OwnCarried t g q [] gap []
  rows_carried : {row : Row} {rows : List Row} {gap : List GapLine} {ds : List Deco} (firsts others : List CommentValue) → own_line_comments (source_of q (row ∷ rows)) (row ∷ rows) ≡ firsts ++ others
      → Blanks t false false gap firsts row.blank_before → Apart row firsts others → Carry t g (source_of q (row ∷ rows)) (row ∷ rows) ds others → OwnCarried t g q (row ∷ rows) gap ds

-- f are the columns that are found
pub record CarriedSame (t : List ℕ) (g f : Columns) (q : Lists) (rows : List Row) (gap : List GapLine) (ds : List Deco) : Type 0 where
  pub gap_is : first_gap f q rows ≡ gap
  pub decos_are : row_decos f q rows ≡ ds
  pub own : OwnCarried t g q rows gap ds

abbrev pub remarks : Lists → List Row → List CommentValue
remarks q rows = map (λ r. r.0) (source_of q rows).remarks

-- what is before the first row, as if a row without text carried it
abbrev pub before_text : List GapLine → Deco
before_text gap = record { trails = []; gap = gap }

-- firsts are the comments before the first row; hs and b are those of the gap as it was laid out
pub carried_same : {t : List ℕ} {s : Style} {g : Columns} (f : Columns) (q : Lists) (row : Row) (rows : List Row) {p : PlacedRow} {ps : List PlacedRow} {ds : List Deco} {gap : List GapLine} {i j : ℕ} {owns : List (List CommentValue)} (firsts hs : List CommentValue)
    (b : Bool) → ((d : CommentValue) → WalkFrom t s f [] true (row ∷ rows) d) → AllStay t s [] true (row ∷ rows) gap ds
    → remarks q (row ∷ rows) ≡ firsts ++ all_of owns → Upward 0 firsts → Under i firsts → texts firsts ≡ remarks_of gap → gap ≡ gap_with g at_text_start row.column hs b → Blanks t false false gap firsts row.blank_before
    → NextTied (firsts ++ all_of owns) row p (before_text gap) → Owns (p ∷ ps) ds i owns j → Tied t g (source_of q (row ∷ rows)) (firsts ++ all_of owns) (row ∷ rows) (p ∷ ps) ds owns → CarriedSame t g f q (row ∷ rows) gap ds
carried_same {t} {s} {g} f q row rows {p} {ps} {gap = gap} {i} {j} {owns} firsts hs b walk (stays_row {d = d} {ds = ds} h rest) all up under is shape blanks tied a w =
    let c : Source = source_of q (row ∷ rows) in
    let again : CarryAgain t g c (row ∷ rows) (d ∷ ds) owns = carry_again firsts under refl a w in
    let left : List CommentValue = all_standing (d ∷ ds) owns in
    let whole : Upward 0 (firsts ++ all_of owns) = upward_join (omega arith) up under (owns_upward a) in
    let own : own_line_comments c (row ∷ rows) ≡ firsts ++ left =
    ap (filter (own_of (flat_map (trailing c) (row ∷ rows)))) all ∙ merged_own [] each_none whole (merged_stand firsts again.merged) in
    let from : p.from ≡ i = first_from a in
    let apart : Apart row firsts left =
    next_apart firsts left tied (λ z. none_is_at [] firsts (is ∙ z)) (omega (arith, from)) under (cut_over firsts refl again.merged (first_over a)) in
    let walks : Each (WalkFrom t s f [] true (row ∷ rows)) (firsts ++ left) = each_all walk (firsts ++ left) in
    record {
      gap_is = ap (λ z. gap_of f at_text_start z (row ∷ rows)) own ∙ (apart_gap f at_text_start rows apart ∙ gap_is g f at_text_start row.column hs b shape blanks h (stay_before apart walks));
      decos_are = decos_again f (own_line_comments c (row ∷ rows)) again.carry rest (walk_after apart walks) (ap (comments_left row) own ∙ apart_left apart);
      own = rows_carried firsts left own blanks apart again.carry;
    }

-- if no row is laid out
pub alone_same : {t : List ℕ} {s : Style} (g f : Columns) (q : Lists) {gap : List GapLine} (firsts hs : List CommentValue) → ((d : CommentValue) → WalkFrom t s f [] true [] d) → AllStay t s [] true [] gap [] → remarks q [] ≡ firsts → Upward 0 firsts
    → gap ≡ gap_with g at_text_start 0 hs false → Blanks t false false gap firsts false → CarriedSame t g f q [] gap []
alone_same {t} {s} g f q firsts hs walk (stays_end h) all up shape blanks =
    let own : own_line_comments (source_of q []) [] ≡ firsts = ap (filter (own_of [])) all ∙ own_alone up in
    record {
      gap_is = ap (λ z. gap_of f at_text_start z []) own ∙ (gap_at_end f at_text_start firsts ∙ gap_is g f at_text_start 0 hs false shape blanks h (stay_at_end (each_all walk firsts)));
      decos_are = refl;
      own = alone_carried firsts own blanks;
    } where
      own_alone : {k : ℕ} {cs : List CommentValue} → Upward k cs → filter (own_of []) cs ≡ cs
      own_alone upward_none = refl
      own_alone (upward_more {c = d} l a) = ap (λ z. d ∷ z) (own_alone a)
