-- A layout as rows, with what each row carries after it in parallel: the comments that trail it, and the lines before
-- the next row. The functions return bytes, followed by any others. The layout equals `layout`
-- (`proofs/Derived/DecoratedLemmas.antt`), and the proofs about a layout use it.
use Rattle.std.specs.Prelude.{ℕ, Bool, true, false, not, ◌&&◌, List, [], ◌∷◌, ◌++◌, map, filter, replicate}
use Rattle.yf_comments.specs.Comment.{CommentValue}
pub use Rattle.yf_comments.specs.GapLines.{GapLine, blank, remark, gap_then}
use Rattle.yf_events.specs.Tree.{DocumentTree}
use Rattle.yf_events.specs.declared.lists.Lists.{Lists}
use Rattle.yf_forms.specs.declared.style.Style.{Style}
use Rattle.yf_forms.specs.NormalForms.BareStart.{is_bare}
use Rattle.yf_laws.specs.Layouts.Layout.{Columns, Source, may_be_blank_after, own_line_comments, precedes_item, source_of, trailing}
use Rattle.yf_forms.specs.Nodes.Lines.{trimmed}
use Rattle.yf_forms.specs.NormalForms.Normal.{setting_of}
use Rattle.yf_print.specs.Layouts.Rows.{Row, Ending, anywhere, at_text_start, all_rows}

-- the texts of the comments that trail a row, and the lines after it
pub record Deco : Type 0 where
  pub trails : List (List ℕ)
  pub gap : List GapLine

abbrev pub no_deco : Deco
no_deco = record { trails = []; gap = [] }

-- in a list that is too short the missing elements carry nothing
abbrev pub first : List Deco → Deco
first [] = no_deco
first (d ∷ ds) = d

abbrev pub after : List Deco → List Deco
after [] = []
after (d ∷ ds) = ds

-- what the rows after these carry
abbrev pub past : List Row → List Deco → List Deco
past [] ds = ds
past (x ∷ xs) ds = past xs (after ds)

-- Bytes, followed by r.

abbrev pub trails_then : List (List ℕ) → List ℕ → List ℕ
trails_then [] r = r
trails_then (x ∷ xs) r = 32 ∷ 32 ∷ (x ++ trails_then xs r)

-- the lines of a block scalar
abbrev pub body_then : List (List ℕ) → List ℕ → List ℕ
body_then [] r = r
body_then (x ∷ xs) r = x ++ (10 ∷ body_then xs r)

-- the bytes after the text of a row with this body
abbrev pub end_then : Deco → List (List ℕ) → List ℕ → List ℕ
end_then d body r = trails_then d.trails (10 ∷ body_then body (gap_then d.gap r))

-- rows with what they carry
abbrev pub lines_then : List Row → List Deco → List ℕ → List ℕ
lines_then [] ds r = r
lines_then (x ∷ xs) ds r = replicate x.column 32 ++ (x.text ++ end_then (first ds) x.body (lines_then xs (after ds) r))

-- rows with what they carry, if the first row's text follows other text on its line
abbrev pub inline_then : List Row → List Deco → List ℕ → List ℕ
inline_then [] ds r = r
inline_then (x ∷ xs) ds r = x.text ++ end_then (first ds) x.body (lines_then xs (after ds) r)

-- What the rows of a source carry.

abbrev pub blank_if : Bool → List GapLine
blank_if true = blank ∷ []
blank_if false = []

-- comments on lines of their own, after a line with that ending
abbrev pub remarks_after : Columns → Ending → ℕ → List CommentValue → List GapLine
remarks_after columns before next [] = []
remarks_after columns before next (c ∷ cs) =
    blank_if (may_be_blank_after before && c.blank_before) ++ (remark (columns c next) (trimmed c.text) ∷ remarks_after columns anywhere next cs)

abbrev pub ending_after : Ending → List CommentValue → Ending
ending_after before [] = before
ending_after before (c ∷ cs) = anywhere

-- the lines before the first of these rows, after a line with that ending
abbrev pub gap_of : Columns → Ending → List CommentValue → List Row → List GapLine
gap_of columns before comments [] = remarks_after columns before 0 comments
gap_of columns before comments (row ∷ rows) =
    remarks_after columns before row.column (filter (precedes_item row) comments)
    ++ blank_if (may_be_blank_after (ending_after before (filter (precedes_item row) comments)) && row.blank_before)

abbrev pub comments_left : Row → List CommentValue → List CommentValue
comments_left row comments = filter (λ d. not (precedes_item row d)) comments

abbrev pub decos_of : Columns → Source → List CommentValue → List Row → List Deco
decos_of columns c comments [] = []
decos_of columns c comments (row ∷ rows) =
    record { trails = map (λ d. trimmed d.text) (trailing c row); gap = gap_of columns row.ending (comments_left row comments) rows }
    ∷ decos_of columns c (comments_left row comments) rows

-- for a normal reading with these rows, and with the columns of comments
abbrev pub first_gap : Columns → Lists → List Row → List GapLine
first_gap columns m rows = gap_of columns at_text_start (own_line_comments (source_of m rows) rows) rows

abbrev pub row_decos : Columns → Lists → List Row → List Deco
row_decos columns m rows = decos_of columns (source_of m rows) (own_line_comments (source_of m rows) rows) rows

abbrev pub decorated : Columns → Lists → List Row → List ℕ
decorated columns m rows = gap_then (first_gap columns m rows) (lines_then rows (row_decos columns m rows) [])

abbrev pub rows_of : Lists → Style → List DocumentTree → List Row
rows_of m s trees = all_rows (setting_of m s) (is_bare m s) m.documents trees
