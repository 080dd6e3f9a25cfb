-- Blank lines between the rows of a layout: not first, no two in sequence, and each before a comment or before a row
-- that begins with an entry.
use Rattle.std.proofs.Common.{◌≡◌, Bool, true, false, ◌&&◌, List, [], ◌∷◌, ◌++◌, ℕ, refl, sym, ap, subst, append_assoc}
use Rattle.std.specs.Prelude.{filter}
use Rattle.yf_comments.specs.Comment.{CommentValue}
use Rattle.yf_comments.specs.GapLines.{GapLine, blank, remark}
use Rattle.yf_laws.specs.Layouts.Decorated.{Deco, blank_if, comments_left, decos_of, ending_after, gap_of, remarks_after}
use Rattle.yf_laws.specs.Layouts.Layout.{Source, may_be_blank_after, precedes_item}
use Rattle.yf_forms.specs.Nodes.Lines.{trimmed}
use Rattle.yf_print.specs.Layouts.Rows.{Row, Ending, anywhere}
use Rattle.yf_print.specs.Layouts.KeptColumns.{Columns}

-- the flags say whether a blank line is allowed directly before the lines, and directly after them
pub data Spread : Bool → List GapLine → Bool → Type 0 where
  spread_end : {b e : Bool} → Spread b [] e
  spread_remark : {b e : Bool} {column : ℕ} {text : List ℕ} {gs : List GapLine} → Spread true gs e → Spread b (remark column text ∷ gs) e
  spread_blank : {e : Bool} {column : ℕ} {text : List ℕ} {gs : List GapLine} → Spread true gs e → Spread true (blank ∷ remark column text ∷ gs) e
  spread_last : Spread true (blank ∷ []) true

pub any_after : (cs : List CommentValue) → ending_after anywhere cs ≡ anywhere
any_after [] = refl
any_after (c ∷ cs) = refl

blank_first : (m b e : Bool) (column : ℕ) (text : List ℕ) (gs : List GapLine) → Spread true gs e → Spread m (blank_if (m && b) ++ (remark column text ∷ gs)) e
blank_first true true e column text gs a = spread_blank a
blank_first true false e column text gs a = spread_remark a
blank_first false b e column text gs a = spread_remark a

remarks_spread : (g : Columns) (before : Ending) (column : ℕ) (cs : List CommentValue) (tail : List GapLine) (e : Bool) → Spread (may_be_blank_after (ending_after before cs)) tail e
    → Spread (may_be_blank_after before) (remarks_after g before column cs ++ tail) e
remarks_spread g before column [] tail e a = a
remarks_spread g before column (c ∷ cs) tail e a =
    let more : Spread true (remarks_after g anywhere column cs ++ tail) e =
    remarks_spread g anywhere column cs tail e (subst (λ w. Spread (may_be_blank_after w) tail e) (sym (any_after cs)) a) in
    subst (λ w. Spread (may_be_blank_after before) w e) (sym (append_assoc (blank_if (may_be_blank_after before && c.blank_before)) (remark (g c column) (trimmed c.text) ∷ remarks_after g anywhere column cs) tail))
    (blank_first (may_be_blank_after before) c.blank_before e (g c column) (trimmed c.text) (remarks_after g anywhere column cs ++ tail) more)

last_spread : (m b : Bool) → Spread m (blank_if (m && b)) b
last_spread true true = spread_last
last_spread true false = spread_end
last_spread false b = spread_end

-- whether a blank line may be before the first of these rows
abbrev pub next_blank : List Row → Bool
next_blank [] = false
next_blank (y ∷ ys) = y.blank_before

nothing_more : (xs : List GapLine) → xs ++ [] ≡ xs
nothing_more [] = refl
nothing_more (x ∷ xs) = ap (λ w. x ∷ w) (nothing_more xs)

pub gap_spread : (g : Columns) (before : Ending) (cs : List CommentValue) (rows : List Row) → Spread (may_be_blank_after before) (gap_of g before cs rows) (next_blank rows)
gap_spread g before cs [] = subst (λ w. Spread (may_be_blank_after before) w false) (nothing_more (remarks_after g before 0 cs)) (remarks_spread g before 0 cs [] false spread_end)
gap_spread g before cs (row ∷ rows) =
    let own : List CommentValue = filter (precedes_item row) cs in
    remarks_spread g before row.column own (blank_if (may_be_blank_after (ending_after before own) && row.blank_before)) row.blank_before
    (last_spread (may_be_blank_after (ending_after before own)) row.blank_before)

pub data Spreads : List Row → List Deco → Type 0 where
  no_spreads : Spreads [] []
  more_spreads : {x : Row} {xs : List Row} {d : Deco} {ds : List Deco} → Spread (may_be_blank_after x.ending) d.gap (next_blank xs) → Spreads xs ds → Spreads (x ∷ xs) (d ∷ ds)

pub decos_spread : (g : Columns) (c : Source) (cs : List CommentValue) (rows : List Row) → Spreads rows (decos_of g c cs rows)
decos_spread g c cs [] = no_spreads
decos_spread g c cs (row ∷ rows) = more_spreads (gap_spread g row.ending (comments_left row cs) rows) (decos_spread g c (comments_left row cs) rows)
