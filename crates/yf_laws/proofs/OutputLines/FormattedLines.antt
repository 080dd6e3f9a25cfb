-- The lines of a formatted text are those of its rows, with what they carry.
use Rattle.std.proofs.Common.{◌≡◌, ℕ, List, [], ◌∷◌, ◌++◌, sym, ◌∙◌, subst}
use Rattle.std.specs.Str.{IsUtf8}
use Rattle.yf_lines.specs.declared.line.Line.{Line}
use Rattle.yf_lines.specs.Lines.{AreLines as LinesOf}
use Rattle.yf_lines.proofs.RestLemmas.{Rest, rest_start}
use Rattle.yf_lines.proofs.TableLemmas.{follow}
use Rattle.yf_comments.specs.GapLines.{GapLine, blank, remark, AreGapLines}
use Rattle.yf_forms.specs.declared.style.Style.{Style}
use Rattle.yf_laws.specs.Layouts.RowComments.{AreRemarks, AreDecos}
use Rattle.yf_laws.specs.Layouts.Decorated.{Deco, body_then, first, after, first_gap, row_decos, rows_of}
use Rattle.yf_laws.specs.Layouts.FitDocuments.{FitDocuments}
use Rattle.yf_laws.specs.Format.{IsFormatting}
use Rattle.yf_forms.specs.NormalForms.Normal.{setting_of}
use Rattle.yf_print.specs.Layouts.Rows.{Row}
use Rattle.yf_laws.proofs.Derived.ClearRows.{line_indented, remark_line, trails_line}
use Rattle.yf_laws.proofs.Writable.CommentsFit.{reading_remarks}
use Rattle.yf_laws.proofs.Derived.DecoratedLemmas.{layout_then}
use Rattle.yf_laws.proofs.Trails.FormatTrails.{formats_trail, normal_trees}
use Rattle.yf_laws.proofs.Derived.FormatsRead.{formats_fit, formats_well}
use Rattle.yf_laws.proofs.Derived.GapsFit.{all_fit}
use Rattle.yf_laws.proofs.OutputLines.LaidLines.{gap_lines, row_lines, laid_lines, layout_is, LinesAre, lines_are}
use Rattle.yf_laws.proofs.Derived.RowEnds.{first_deco, after_decos}
use Rattle.yf_laws.proofs.Derived.RowsUtf8.{AreLines, no_line, line_more, RowLines, no_rows, row_more, all_lines}
use Rattle.yf_lines.proofs.RestLemmas.{line_nothing, line_append}
use Rattle.yf_forms.specs.NormalForms.BareStart.{is_bare}
use Rattle.yf_laws.specs.Preservation.CommentsPlaced.{columns_in}

-- Each line is a text within a line.

pub append_lines : {xs ys : List (List ℕ)} → AreLines xs → AreLines ys → AreLines (xs ++ ys)
append_lines no_line b = b
append_lines (line_more a more) b = line_more a (append_lines more b)

pub gap_texts : (gap : List GapLine) → AreGapLines gap → AreLines (gap_lines gap)
gap_texts [] a = no_line
gap_texts (blank ∷ gs) a = line_more line_nothing (gap_texts gs a)
gap_texts (remark column text ∷ gs) a = line_more (line_indented column (remark_line a.0)) (gap_texts gs a.1)

pub row_texts : {xs : List Row} (ds : List Deco) → RowLines xs → AreDecos ds → AreLines (row_lines xs ds)
row_texts ds no_rows k = no_line
row_texts ds (row_more {x = x} {xs = xs} a s b more) k =
    line_more (line_indented x.column (line_append a (trails_line (first ds).trails (first_deco k).trails)))
    (append_lines b (append_lines (gap_texts (first ds).gap (first_deco k).gap) (row_texts (after ds) more (after_decos k))))

-- The facts about the rows of a formatted text.

pub record Formed {t : List ℕ} {s : Style} {u : List ℕ} (f : IsFormatting t s u) : Type 0 where
  pub utf8 : IsUtf8 u
  pub fit : FitDocuments s f.normal.documents f.writes.trees
  pub gap : AreGapLines (first_gap (columns_in f) f.normal (rows_of f.normal s f.writes.trees))
  pub decos : AreDecos (row_decos (columns_in f) f.normal (rows_of f.normal s f.writes.trees))
  pub rows : RowLines (rows_of f.normal s f.writes.trees)

pub formed : {t u : List ℕ} {s : Style} → IsUtf8 t → (f : IsFormatting t s u) → Formed f
formed {t} {u} {s} utf8 f =
    let n = normal_trees f in
    let fit = formats_fit utf8 f in
    let remarks : AreRemarks f.normal.comments = subst (λ cs. AreRemarks cs) (sym n.comments) (reading_remarks utf8 f.reads) in
    let fits = all_fit (columns_in f) f.normal (rows_of f.normal s f.writes.trees) (formats_trail t u s utf8 f) remarks in
    record { utf8 = (formats_well t u s utf8 f).utf8; fit = fit; gap = fits.0; decos = fits.1; rows = all_lines (setting_of f.normal s) (is_bare f.normal s) fit }

-- its lines
abbrev pub formed_lines : {t u : List ℕ} {s : Style} → IsFormatting t s u → List (List ℕ)
formed_lines {s = s} f = laid_lines (first_gap (columns_in f) f.normal (rows_of f.normal s f.writes.trees)) (rows_of f.normal s f.writes.trees) (row_decos (columns_in f) f.normal (rows_of f.normal s f.writes.trees))

pub formed_text : {t u : List ℕ} {s : Style} (f : IsFormatting t s u) → u ≡ body_then (formed_lines f) []
formed_text {t = t} {s = s} f =
    let rows : List Row = rows_of f.normal s f.writes.trees in
    f.writes.is ∙ (layout_then t f.normal s f.writes.trees ∙ layout_is (first_gap (columns_in f) f.normal rows) rows (row_decos (columns_in f) f.normal rows))

pub formed_are : {t u : List ℕ} {s : Style} (ls : List Line) (f : IsFormatting t s u) → Formed f → LinesOf u ls → LinesAre u ls (formed_lines f)
formed_are {u = u} {s = s} ls f a lines =
    let rows : List Row = rows_of f.normal s f.writes.trees in
    lines_are ls a.utf8 (append_lines (gap_texts (first_gap (columns_in f) f.normal rows) a.gap) (row_texts (row_decos (columns_in f) f.normal rows) a.rows a.decos)) (follow lines)
    (subst (λ w. Rest u 0 w) (formed_text f) (rest_start u a.utf8))
