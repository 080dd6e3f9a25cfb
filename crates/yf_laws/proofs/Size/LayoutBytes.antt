-- A layout has at most as many bytes as its rows and the comments that they carry.
use Rattle.std.proofs.Common.{◌≡◌, ℕ, suc, ◌+◌, ◌≤◌, Bool, true, false, List, [], ◌∷◌, ◌++◌, length, map, replicate, refl, ap, arith, length-append, append-nil}
use Rattle.std.specs.Prelude.{◌&&◌, filter, if◌then◌else◌}
use Rattle.std.specs.List.{list_all}
use Rattle.std.proofs.lemmas.List.{length-replicate}
use Rattle.yf_chars.specs.Class.{is_white}
use Rattle.yf_comments.specs.Comment.{CommentValue}
use Rattle.yf_comments.specs.GapLines.{GapLine, blank, remark, gap_then, remarks_of}
use Rattle.yf_events.specs.declared.event.Span.{Span}
use Rattle.yf_laws.specs.Layouts.Decorated.{blank_if, body_then, comments_left, decos_of, ending_after, gap_of, lines_then, remarks_after, trails_then}
use Rattle.yf_print.specs.Layouts.KeptColumns.{Columns}
use Rattle.yf_laws.specs.Layouts.Layout.{Source, may_be_blank_after, precedes_item, trailing}
use Rattle.yf_forms.specs.Nodes.Lines.{trimmed}
use Rattle.yf_print.specs.Layouts.Rows.{Ending, Row, anywhere}
use Rattle.yf_laws.proofs.Derived.LayoutSteps.{Step, a_comment, a_leaf, comment_steps, comments_of, leaf_steps, steps_in}
use Rattle.yf_laws.proofs.Size.LeafBytes.{body_size}
use Rattle.yf_laws.proofs.Size.RowBytes.{price, price_add, price_line, size}
use Rattle.yf_laws.proofs.Size.Weights.{remark_low, remark_weight, remarks_weight}

-- no row is farther to the right
pub data LowRows (w : ℕ) : List Row → Type 0 where
  no_rows_low : LowRows w []
  one_row_low : {x : Row} {xs : List Row} → x.column ≤ w → LowRows w xs → LowRows w (x ∷ xs)

-- and no comment, if the next line isn't
abbrev pub LowColumns : ℕ → Columns → Type 0
LowColumns w g = (c : CommentValue) (next : ℕ) → next ≤ w → g c next ≤ w

-- a comment's line, with a blank line before it
abbrev pub steps_cost : ℕ → List Step → ℕ
steps_cost w [] = 0
steps_cost w (a_leaf ∷ steps) = steps_cost w steps
steps_cost w (a_comment x ∷ steps) = (w + length x + 2) + steps_cost w steps

cost_append : (w : ℕ) (xs ys : List Step) → steps_cost w (xs ++ ys) ≡ steps_cost w xs + steps_cost w ys
cost_append w [] ys = omega arith
cost_append w (a_leaf ∷ xs) ys = cost_append w xs ys
cost_append w (a_comment x ∷ xs) ys = let l = cost_append w xs ys in omega (arith, l)

leaves_cost : (w : ℕ) (ss : List Span) → steps_cost w (leaf_steps ss) ≡ 0
leaves_cost w [] = refl
leaves_cost w (s ∷ ss) = leaves_cost w ss

texts_append : (w : ℕ) (xs ys : List (List ℕ)) → steps_cost w (comment_steps (xs ++ ys)) ≡ steps_cost w (comment_steps xs) + steps_cost w (comment_steps ys)
texts_append w [] ys = omega arith
texts_append w (x ∷ xs) ys = let l = texts_append w xs ys in omega (arith, l)

-- What rows carry.

trails_size : (w : ℕ) (xs : List (List ℕ)) (r : List ℕ) → length (trails_then xs r) ≤ steps_cost w (comment_steps xs) + length r
trails_size w [] r = omega arith
trails_size w (x ∷ xs) r = let l = trails_size w xs r in omega (arith, l, length-append x (trails_then xs r))

body_length : (xs : List (List ℕ)) (r : List ℕ) → length (body_then xs r) ≡ body_size xs + length r
body_length [] r = omega arith
body_length (x ∷ xs) r = let l = body_length xs r in omega (arith, l, length-append x (10 ∷ body_then xs r))

blank_size : (b : Bool) (r : List ℕ) → length (gap_then (blank_if b) r) ≤ suc (length r)
blank_size true r = omega arith
blank_size false r = omega arith

remarks_size : (w : ℕ) (g : Columns) (before : Ending) (next : ℕ) (cs : List CommentValue) (gs : List GapLine) (r : List ℕ) → LowColumns w g → next ≤ w
    → length (gap_then (remarks_after g before next cs ++ gs) r) ≤ steps_cost w (comment_steps (remarks_of (remarks_after g before next cs))) + length (gap_then gs r)
remarks_size w g before next [] gs r low l = omega arith
remarks_size w g before next (c ∷ cs) gs r low l = by (may_be_blank_after before && c.blank_before) (g c next) (low c next l) (remarks_size w g anywhere next cs gs r low l) where
  text : List ℕ
  text = trimmed c.text

  others : List GapLine
  others = remarks_after g anywhere next cs

  by : (b : Bool) (column : ℕ) → column ≤ w → length (gap_then (others ++ gs) r) ≤ steps_cost w (comment_steps (remarks_of others)) + length (gap_then gs r)
      → length (gap_then ((blank_if b ++ (remark column text ∷ others)) ++ gs) r) ≤ steps_cost w (comment_steps (remarks_of (blank_if b ++ (remark column text ∷ others)))) + length (gap_then gs r)
  by true column k m = omega (arith, k, m, length-append (replicate column 32) (text ++ (10 ∷ gap_then (others ++ gs) r)), length-replicate {A = ℕ} column 32, length-append text (10 ∷ gap_then (others ++ gs) r))
  by false column k m = omega (arith, k, m, length-append (replicate column 32) (text ++ (10 ∷ gap_then (others ++ gs) r)), length-replicate {A = ℕ} column 32, length-append text (10 ∷ gap_then (others ++ gs) r))

remarks_end : (gs : List GapLine) (b : Bool) → remarks_of (gs ++ blank_if b) ≡ remarks_of gs
remarks_end [] true = refl
remarks_end [] false = refl
remarks_end (blank ∷ gs) b = remarks_end gs b
remarks_end (remark column text ∷ gs) b = ap (λ z. text ∷ z) (remarks_end gs b)

-- Layouts.

-- rows with the lines before them, after a line with that ending; a blank line before a row is the row's
pub rows_size : (w : ℕ) (g : Columns) (before : Ending) (c : Source) (comments : List CommentValue) {rows : List Row} → LowColumns w g → LowRows w rows
    → length (gap_then (gap_of g before comments rows) (lines_then rows (decos_of g c comments rows) []))
    ≤ size rows + (steps_cost w (comment_steps (remarks_of (gap_of g before comments rows))) + steps_cost w (steps_in rows (decos_of g c comments rows)))
rows_size w g before c comments bound no_rows_low =
    let l = remarks_size w g before 0 comments [] [] bound (omega arith) in
    let same : gap_then (remarks_after g before 0 comments ++ []) [] ≡ gap_then (remarks_after g before 0 comments) [] = ap (λ z. gap_then z []) (append-nil (remarks_after g before 0 comments)) in
    omega (arith, l, ap length same)
rows_size w g before c comments bound (one_row_low {x = x} {xs = xs} low more) =
    let ahead : List CommentValue = filter (precedes_item x) comments in
    let left : List CommentValue = comments_left x comments in
    let b : Bool = may_be_blank_after (ending_after before ahead) && x.blank_before in
    let trails : List (List ℕ) = map (λ (d : CommentValue). trimmed d.text) (trailing c x) in
    let gap : List GapLine = gap_of g x.ending left xs in
    let below : List ℕ = gap_then gap (lines_then xs (decos_of g c left xs) []) in
    let line : List ℕ = lines_then (x ∷ xs) (decos_of g c comments (x ∷ xs)) [] in
    let others = rows_size w g x.ending c left bound more in
    let remarks = remarks_size w g before x.column ahead (blank_if b) line bound low in
    let one = blank_size b line in
    let same : steps_cost w (comment_steps (remarks_of (remarks_after g before x.column ahead ++ blank_if b))) ≡ steps_cost w (comment_steps (remarks_of (remarks_after g before x.column ahead))) =
    ap (λ z. steps_cost w (comment_steps z)) (remarks_end (remarks_after g before x.column ahead) b) in
    let two = trails_size w trails (10 ∷ body_then x.body below) in
    let three = body_length x.body below in
    let four : length line ≡ x.column + (length x.text + length (trails_then trails (10 ∷ body_then x.body below))) =
    (let p = length-append (replicate x.column 32) (x.text ++ trails_then trails (10 ∷ body_then x.body below)) in
    let q = length-append x.text (trails_then trails (10 ∷ body_then x.body below)) in
    omega (arith, p, q, length-replicate {A = ℕ} x.column 32)) in
    let carried : steps_cost w (steps_in (x ∷ xs) (decos_of g c comments (x ∷ xs))) ≡ steps_cost w (comment_steps trails) + (steps_cost w (comment_steps (remarks_of gap)) + steps_cost w (steps_in xs (decos_of g c left xs))) =
    (let p = cost_append w (leaf_steps x.leaves) (comment_steps (trails ++ remarks_of gap) ++ steps_in xs (decos_of g c left xs)) in
    let q = cost_append w (comment_steps (trails ++ remarks_of gap)) (steps_in xs (decos_of g c left xs)) in
    omega (arith, p, q, leaves_cost w x.leaves, texts_append w trails (remarks_of gap))) in
    omega (arith, others, remarks, one, same, two, three, four, carried)

-- Numbers for comments.

abbrev pub told_cost : ℕ → List (List ℕ × ℕ) → ℕ
told_cost w [] = 0
told_cost w (p ∷ ps) = (w + length p.0 + 2) + told_cost w ps

pub steps_told : (w n : ℕ) (steps : List Step) → told_cost w (comments_of n steps) ≡ steps_cost w steps
steps_told w n [] = refl
steps_told w n (a_leaf ∷ steps) = steps_told w (n + 1) steps
steps_told w n (a_comment x ∷ steps) = ap (λ k. (w + length x + 2) + k) (steps_told w n steps)

trimmed_most : (x : List ℕ) → length (trimmed x) ≤ length x
trimmed_most [] = omega arith
trimmed_most (b ∷ bs) = by (list_all is_white (b ∷ bs)) (trimmed_most bs) where
  by : (c : Bool) → length (trimmed bs) ≤ length bs → length (if c then [] else b ∷ trimmed bs) ≤ suc (length bs)
  by true l = omega arith
  by false l = omega (arith, l)

pub comments_cost : (w : ℕ) (n : ℕ → ℕ) (cs : List CommentValue) → told_cost w (map (λ (c : CommentValue). (trimmed c.text, n c.offset)) cs) ≤ price w (remarks_weight cs)
comments_cost w n [] = omega arith
comments_cost w n (c ∷ cs) =
    let l = comments_cost w n cs in
    let m = trimmed_most c.text in
    let k = remark_low c.text in
    let one = price_line w (remark_weight c.text) k.0 in
    omega (arith, l, m, k.0, k.1, one, price_add w (remark_weight c.text) (remarks_weight cs))

pub all_steps : (w : ℕ) (xs : List (List ℕ)) (ys : List Step) → steps_cost w (comment_steps xs ++ ys) ≡ steps_cost w (comment_steps xs) + steps_cost w ys
all_steps w xs ys = cost_append w (comment_steps xs) ys
