-- The layout of a normal reading: the lines on which its comments are, the blank lines that are printed, and the bytes.
use Rattle.std.specs.Prelude.{◌≡◌, ℕ, Bool, true, false, not, ◌==◌, ◌&&◌, ◌||◌, nat_lt, if◌then◌else◌, List, [], ◌∷◌, ◌++◌, map, flat_map, filter, find, zip, replicate, option_to_list, option_map, Option, Some, None}
use Rattle.std.specs.List.{list_any}
use Rattle.yf_comments.specs.Comment.{CommentValue}
use Rattle.yf_events.specs.declared.event.Span.{Span}
use Rattle.yf_events.specs.declared.lists.Lists.{Lists}
use Rattle.yf_forms.specs.declared.style.Style.{Style}
use Rattle.yf_forms.specs.NormalForms.BareStart.{is_bare}
pub use Rattle.yf_print.specs.Layouts.KeptColumns.{Columns, columns_of, next_columns, precedes_item}
use Rattle.yf_forms.specs.NormalForms.Normal.{setting_of}
use Rattle.yf_print.specs.Layouts.Rows.{Row, Ending, at_text_start, at_document_start, at_kept_tail, before_node, anywhere, all_rows}
use Rattle.yf_events.specs.Tree.{DocumentTree, TreesOf}
use Rattle.yf_forms.specs.Nodes.Lines.{ended, trimmed, after_two_spaces}

-- a comment, and whether it is on the line on which the last leaf before it ends
abbrev pub Remark : Type 0
Remark = CommentValue × Bool

-- what decides the lines of comments: all comments, all leaves with characters, and the comments that trail a key
pub record Source : Type 0 where
  pub remarks : List Remark
  pub leaves : List Span
  pub key_comments : List CommentValue

abbrev pub is_among : List CommentValue → CommentValue → Bool
is_among cs c = list_any (λ d. d.offset == c.offset) cs

-- Comments after a line.

-- the start of the next leaf after an offset; a comment is before it, or anywhere if no leaf follows
abbrev pub next_leaf : List Span → ℕ → Option ℕ
next_leaf leaves from = option_map (λ s. s.start) (find (λ s. nat_lt from s.start) leaves)

abbrev pub is_before : ℕ → Option ℕ → Bool
is_before offset None = true
is_before offset (Some end) = nat_lt offset end

-- the first comment after the start of a leaf and before the next leaf
abbrev pub first_comment : Source → Span → Option Remark
first_comment c leaf =
    find (λ r. nat_lt leaf.start r.0.offset && is_before r.0.offset (next_leaf c.leaves leaf.start)) c.remarks

-- it trails the leaf if it is inside the leaf or on the line on which the leaf ends, unless it trails a key
abbrev pub trailing_leaf : Source → Span → Option Remark → List CommentValue
trailing_leaf c leaf None = []
trailing_leaf c leaf (Some r) =
    if (nat_lt r.0.offset leaf.end || r.1) && not (is_among c.key_comments r.0) then r.0 ∷ [] else []

abbrev pub trailing : Source → Row → List CommentValue
trailing c row = option_to_list row.key_comment ++ flat_map (λ leaf. trailing_leaf c leaf (first_comment c leaf)) row.leaves

-- Comments on lines of their own.

-- the comments that trail nothing
abbrev pub own_line_comments : Source → List Row → List CommentValue
own_line_comments c rows = filter (λ d. not (is_among (flat_map (trailing c) rows) d)) (map (λ r. r.0) c.remarks)

-- Lines, as they are printed.

pub record Line : Type 0 where
  pub column : ℕ
  pub text : List ℕ
  -- a blank line is before it in the source
  pub blank_before : Bool
  pub ending : Ending
  pub body : List (List ℕ)

abbrev pub comment_line : Columns → ℕ → CommentValue → Line
comment_line columns next c =
    record { column = columns c next; text = trimmed c.text; blank_before = c.blank_before; ending = anywhere; body = [] }

abbrev pub row_line : Source → Row → Line
row_line c row = record {
  column = row.column;
  text = row.text ++ flat_map after_two_spaces (trailing c row);
  blank_before = row.blank_before;
  ending = row.ending;
  body = row.body;
}

-- Each comment on a line of its own is directly before the line that holds the first item after it, at that line's
-- column or at the column that keeps it in its block. If no item follows, it is at the end, and the next line's column
-- counts as 0. Items are in the order of the source.
abbrev pub lines_of : Columns → Source → List CommentValue → List Row → List Line
lines_of columns c comments [] = map (comment_line columns 0) comments
lines_of columns c comments (row ∷ rows) =
    map (comment_line columns row.column) (filter (precedes_item row) comments)
    ++ (row_line c row ∷ lines_of columns c (filter (λ d. not (precedes_item row d)) comments) rows)

-- a blank line is not repeated at the beginning, after a document's `---` line or a kept tail, and before the text of a
-- node that has begun
abbrev pub may_be_blank_after : Ending → Bool
may_be_blank_after at_text_start = false
may_be_blank_after at_document_start = false
may_be_blank_after at_kept_tail = false
may_be_blank_after before_node = false
may_be_blank_after anywhere = true

abbrev pub blank_line : Ending → Line → List ℕ
blank_line before l = if may_be_blank_after before && l.blank_before then 10 ∷ [] else []

abbrev pub line_bytes : Line → List ℕ
line_bytes l = replicate l.column 32 ++ (ended l.text ++ flat_map ended l.body)

-- lines after one with that ending
abbrev pub bytes_after : Ending → List Line → List ℕ
bytes_after before [] = []
bytes_after before (l ∷ ls) = blank_line before l ++ (line_bytes l ++ bytes_after l.ending ls)

-- Whole readings.

abbrev pub source_of : Lists → List Row → Source
source_of m rows = record {
  remarks = zip m.comments m.on_leaf_line;
  leaves = flat_map (λ row. row.leaves) rows;
  key_comments = flat_map (λ row. option_to_list row.key_comment) rows;
}

abbrev pub lines_with_comments : Columns → Lists → List Row → List Line
lines_with_comments columns m rows = lines_of columns (source_of m rows) (own_line_comments (source_of m rows) rows) rows

abbrev pub layout : List ℕ → Lists → Style → List DocumentTree → List ℕ
layout t m s trees =
    let rows = all_rows (setting_of m s) (is_bare m s) m.documents trees in
    bytes_after at_text_start (lines_with_comments (columns_of t s rows) m rows)

-- u is the layout of the normal reading m of the text t
pub record IsLayout (t : List ℕ) (m : Lists) (s : Style) (u : List ℕ) : Type 0 where
  pub trees : List DocumentTree
  pub of_reading : TreesOf m trees
  pub is : u ≡ layout t m s trees
