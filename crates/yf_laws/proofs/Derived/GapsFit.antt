-- Rows carry comments and blank lines, if the comments are texts of comments.
use Rattle.std.proofs.Common.{ℕ, Bool, true, false, ◌&&◌, List, [], ◌∷◌, ◌++◌, map}
use Rattle.std.specs.Prelude.{filter, flat_map, zip, not, if◌then◌else◌}
use Rattle.yf_comments.specs.Comment.{CommentValue}
use Rattle.yf_comments.specs.GapLines.{AreGapLines}
use Rattle.yf_events.specs.declared.lists.Lists.{Lists}
use Rattle.yf_laws.specs.Layouts.RowComments.{AreDecos, nothing_carried, one_carried, AreRemarks, no_remark, one_remark, TrailsFit}
use Rattle.yf_laws.specs.Layouts.Decorated.{GapLine, blank, remark, blank_if, remarks_after, ending_after, gap_of, decos_of, first_gap, row_decos}
use Rattle.yf_laws.specs.Layouts.Layout.{Source, Remark, trailing, own_line_comments, precedes_item, is_among, may_be_blank_after, source_of}
use Rattle.yf_forms.specs.Nodes.Lines.{trimmed}
use Rattle.yf_print.specs.Layouts.Rows.{Row, Ending, anywhere, at_text_start}
use Rattle.yf_print.specs.Layouts.KeptColumns.{Columns}

gap_append_fits : (xs ys : List GapLine) → AreGapLines xs → AreGapLines ys → AreGapLines (xs ++ ys)
gap_append_fits [] ys a b = b
gap_append_fits (blank ∷ xs) ys a b = gap_append_fits xs ys a b
gap_append_fits (remark column text ∷ xs) ys a b = (a.0, gap_append_fits xs ys a.1 b)

blank_fits : (b : Bool) → AreGapLines (blank_if b)
blank_fits true = tt
blank_fits false = tt

filter_fits : (p : CommentValue → Bool) {cs : List CommentValue} → AreRemarks cs → AreRemarks (filter p cs)
filter_fits p no_remark = no_remark
filter_fits p (one_remark {c = c} {cs = cs} a more) = chosen (p c) (filter_fits p more) where
  chosen : (b : Bool) → AreRemarks (filter p cs) → AreRemarks (if b then c ∷ filter p cs else filter p cs)
  chosen true rest = one_remark a rest
  chosen false rest = rest

remarks_fit : (g : Columns) (before : Ending) (column : ℕ) {cs : List CommentValue} → AreRemarks cs → AreGapLines (remarks_after g before column cs)
remarks_fit g before column no_remark = tt
remarks_fit g before column (one_remark {c = c} {cs = cs} a more) =
    gap_append_fits (blank_if (may_be_blank_after before && c.blank_before)) (remark (g c column) (trimmed c.text) ∷ remarks_after g anywhere column cs) (blank_fits (may_be_blank_after before && c.blank_before))
    (a, remarks_fit g anywhere column more)

pub gap_fits : (g : Columns) (before : Ending) {cs : List CommentValue} (rows : List Row) → AreRemarks cs → AreGapLines (gap_of g before cs rows)
gap_fits g before [] a = remarks_fit g before 0 a
gap_fits g before {cs} (row ∷ rows) a =
    gap_append_fits (remarks_after g before row.column (filter (precedes_item row) cs))
    (blank_if (may_be_blank_after (ending_after before (filter (precedes_item row) cs)) && row.blank_before))
    (remarks_fit g before row.column (filter_fits (precedes_item row) a)) (blank_fits (may_be_blank_after (ending_after before (filter (precedes_item row) cs)) && row.blank_before))

pub decos_fit : (g : Columns) (c : Source) (rows : List Row) {cs : List CommentValue} → TrailsFit c rows → AreRemarks cs → AreDecos (decos_of g c cs rows)
decos_fit g c [] t a = nothing_carried
decos_fit g c (row ∷ rows) t a =
    let left = filter_fits (λ d. not (precedes_item row d)) a in
    one_carried (record { trails = t.0; gap = gap_fits g row.ending rows left }) (decos_fit g c rows t.1 left)

own_lines_fit : (c : Source) (rows : List Row) → AreRemarks (map (λ (r : Remark). r.0) c.remarks) → AreRemarks (own_line_comments c rows)
own_lines_fit c rows a = filter_fits (λ d. not (is_among (flat_map (trailing c) rows) d)) a

-- for a normal reading with these rows
first_gap_fits : (g : Columns) (m : Lists) (rows : List Row) → AreRemarks (map (λ (r : Remark). r.0) (source_of m rows).remarks) → AreGapLines (first_gap g m rows)
first_gap_fits g m rows a = gap_fits g at_text_start rows (own_lines_fit (source_of m rows) rows a)

row_decos_fit : (g : Columns) (m : Lists) (rows : List Row) → TrailsFit (source_of m rows) rows → AreRemarks (map (λ (r : Remark). r.0) (source_of m rows).remarks) → AreDecos (row_decos g m rows)
row_decos_fit g m rows t a = decos_fit g (source_of m rows) rows t (own_lines_fit (source_of m rows) rows a)

zip_fits : {cs : List CommentValue} (bs : List Bool) → AreRemarks cs → AreRemarks (map (λ (r : Remark). r.0) (zip cs bs))
zip_fits bs no_remark = no_remark
zip_fits [] (one_remark a more) = no_remark
zip_fits (b ∷ bs) (one_remark a more) = one_remark a (zip_fits bs more)

pub all_fit : (g : Columns) (m : Lists) (rows : List Row) → TrailsFit (source_of m rows) rows → AreRemarks m.comments → AreGapLines (first_gap g m rows) × AreDecos (row_decos g m rows)
all_fit g m rows t a = let each = zip_fits m.on_leaf_line a in (first_gap_fits g m rows each, row_decos_fit g m rows t each)
