-- A layout is its rows with what each carries, as bytes with anything after them; how rows in sequence, and rows on the
-- line of a sign or key, are read off such bytes.
use Rattle.std.proofs.Common.{◌≡◌, ℕ, Bool, true, false, ◌&&◌, List, [], ◌∷◌, ◌++◌, map, flat_map, replicate, refl, sym, ap, ◌∙◌, append_assoc, append-nil, cond}
use Rattle.std.specs.Prelude.{filter}
use Rattle.yf_comments.specs.Comment.{CommentValue}
use Rattle.yf_events.specs.Tree.{DocumentTree}
use Rattle.yf_events.specs.declared.lists.Lists.{Lists}
use Rattle.yf_forms.specs.declared.style.Style.{Style}
use Rattle.yf_laws.specs.Layouts.Decorated.{GapLine, blank, remark, Deco, first, after, past, gap_then, trails_then, body_then, end_then, lines_then, inline_then, blank_if, remarks_after, ending_after, gap_of, comments_left, decos_of, decorated, rows_of}
use Rattle.yf_laws.specs.Layouts.Layout.{Source, Line, layout, lines_of, comment_line, row_line, bytes_after, line_bytes, trailing, precedes_item, may_be_blank_after, own_line_comments, source_of}
use Rattle.yf_forms.specs.Nodes.Lines.{ended, after_two_spaces, trimmed}
use Rattle.yf_print.specs.Layouts.Rows.{Row, Ending, anywhere, at_text_start}
use Rattle.yf_print.specs.Layouts.KeptColumns.{Columns, columns_of}

-- Rows in sequence.

pub lines_append : (xs ys : List Row) (ds : List Deco) (r : List ℕ) → lines_then (xs ++ ys) ds r ≡ lines_then xs ds (lines_then ys (past xs ds) r)
lines_append [] ys ds r = refl
lines_append (x ∷ xs) ys ds r =
    ap (λ z. replicate x.column 32 ++ (x.text ++ end_then (first ds) x.body z)) (lines_append xs ys (after ds) r)

pub inline_append : (x : Row) (xs ys : List Row) (ds : List Deco) (r : List ℕ)
    → inline_then ((x ∷ xs) ++ ys) ds r ≡ inline_then (x ∷ xs) ds (lines_then ys (past (x ∷ xs) ds) r)
inline_append x xs ys ds r = ap (λ z. x.text ++ end_then (first ds) x.body z) (lines_append xs ys (after ds) r)

pub gap_append : (xs ys : List GapLine) (r : List ℕ) → gap_then (xs ++ ys) r ≡ gap_then xs (gap_then ys r)
gap_append [] ys r = refl
gap_append (blank ∷ xs) ys r = ap (λ z. 10 ∷ z) (gap_append xs ys r)
gap_append (remark column text ∷ xs) ys r = ap (λ z. replicate column 32 ++ (text ++ (10 ∷ z))) (gap_append xs ys r)

-- The layout.

trails_law : (cs : List CommentValue) (r : List ℕ) → flat_map after_two_spaces cs ++ r ≡ trails_then (map (λ d. trimmed d.text) cs) r
trails_law [] r = refl
trails_law (c ∷ cs) r =
    ap (λ z. 32 ∷ 32 ∷ z) (append_assoc (trimmed c.text) (flat_map after_two_spaces cs) r ∙ ap (λ z. trimmed c.text ++ z) (trails_law cs r))

body_law : (xs : List (List ℕ)) (r : List ℕ) → flat_map ended xs ++ r ≡ body_then xs r
body_law [] r = refl
body_law (x ∷ xs) r =
    append_assoc (ended x) (flat_map ended xs) r
    ∙ (append_assoc x (10 ∷ []) (flat_map ended xs ++ r) ∙ ap (λ z. x ++ (10 ∷ z)) (body_law xs r))

-- a line's bytes, followed by r
line_law : (column : ℕ) (text : List ℕ) (body : List (List ℕ)) (r : List ℕ)
    → (replicate column 32 ++ (ended text ++ flat_map ended body)) ++ r ≡ replicate column 32 ++ (text ++ (10 ∷ body_then body r))
line_law column text body r =
    append_assoc (replicate column 32) (ended text ++ flat_map ended body) r
    ∙ ap (λ z. replicate column 32 ++ z)
    (append_assoc (ended text) (flat_map ended body) r
    ∙ (append_assoc text (10 ∷ []) (flat_map ended body ++ r) ∙ ap (λ z. text ++ (10 ∷ z)) (body_law body r)))

row_law : (c : Source) (row : Row) (r : List ℕ)
    → line_bytes (row_line c row) ++ r
    ≡ replicate row.column 32 ++ (row.text ++ trails_then (map (λ d. trimmed d.text) (trailing c row)) (10 ∷ body_then row.body r))
row_law c row r =
    line_law row.column (row.text ++ flat_map after_two_spaces (trailing c row)) row.body r
    ∙ ap (λ z. replicate row.column 32 ++ z)
    (append_assoc row.text (flat_map after_two_spaces (trailing c row)) (10 ∷ body_then row.body r)
    ∙ ap (λ z. row.text ++ z) (trails_law (trailing c row) (10 ∷ body_then row.body r)))

blank_law : (b : Bool) (r : List ℕ) → cond b (10 ∷ []) [] ++ r ≡ gap_then (blank_if b) r
blank_law true r = refl
blank_law false r = refl

comments_law : (g : Columns) (before : Ending) (column : ℕ) (cs : List CommentValue) (ls : List Line)
    → bytes_after before (map (comment_line g column) cs ++ ls) ≡ gap_then (remarks_after g before column cs) (bytes_after (ending_after before cs) ls)
comments_law g before column [] ls = refl
comments_law g before column (c ∷ cs) ls =
    let rest = comments_law g anywhere column cs ls in
    let here : line_bytes (comment_line g column c) ++ bytes_after anywhere (map (comment_line g column) cs ++ ls)
    ≡ gap_then (remark (g c column) (trimmed c.text) ∷ remarks_after g anywhere column cs) (bytes_after (ending_after anywhere cs) ls) =
    line_law (g c column) (trimmed c.text) [] _ ∙ ap (λ z. replicate (g c column) 32 ++ (trimmed c.text ++ (10 ∷ z))) rest in
    blank_law (may_be_blank_after before && c.blank_before) _
    ∙ (ap (λ z. gap_then (blank_if (may_be_blank_after before && c.blank_before)) z) (here ∙ ap (λ e. gap_then (remark (g c column) (trimmed c.text) ∷ remarks_after g anywhere column cs) (bytes_after e ls)) (always cs))
    ∙ sym (gap_append (blank_if (may_be_blank_after before && c.blank_before)) _ _)) where
      always : (cs : List CommentValue) → ending_after anywhere cs ≡ anywhere
      always [] = refl
      always (d ∷ ds) = refl

rows_law : (g : Columns) (c : Source) (before : Ending) (comments : List CommentValue) (rows : List Row)
    → bytes_after before (lines_of g c comments rows) ≡ gap_then (gap_of g before comments rows) (lines_then rows (decos_of g c comments rows) [])
rows_law g c before comments [] =
    ap (λ z. bytes_after before z) (sym (append-nil (map (comment_line g 0) comments))) ∙ comments_law g before 0 comments []
rows_law g c before comments (row ∷ rows) =
    let own = filter (precedes_item row) comments in
    let rest = rows_law g c row.ending (comments_left row comments) rows in
    let here = row_law c row (bytes_after row.ending (lines_of g c (comments_left row comments) rows)) in
    comments_law g before row.column own _
    ∙ (ap (λ z. gap_then (remarks_after g before row.column own) z)
    (blank_law (may_be_blank_after (ending_after before own) && row.blank_before) _
    ∙ ap (λ z. gap_then (blank_if (may_be_blank_after (ending_after before own) && row.blank_before)) z)
    (here ∙ ap (λ z. replicate row.column 32 ++ (row.text ++ trails_then (map (λ d. trimmed d.text) (trailing c row)) (10 ∷ body_then row.body z))) rest))
    ∙ sym (gap_append (remarks_after g before row.column own) _ _))

-- the layout of a normal reading is its rows with what they carry
pub layout_then : (t : List ℕ) (m : Lists) (s : Style) (trees : List DocumentTree) → layout t m s trees ≡ decorated (columns_of t s (rows_of m s trees)) m (rows_of m s trees)
layout_then t m s trees =
    rows_law (columns_of t s (rows_of m s trees)) (source_of m (rows_of m s trees)) at_text_start (own_line_comments (source_of m (rows_of m s trees)) (rows_of m s trees)) (rows_of m s trees)
