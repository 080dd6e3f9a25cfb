-- The numbers for the comments that a layout prints, if each row cuts the remaining ones into those before it, those
-- that trail it, and the rest.
use Rattle.std.proofs.Common.{◌≡◌, ℕ, suc, ◌+◌, Bool, true, false, List, [], ◌∷◌, ◌++◌, length, map, refl, sym, ap, ◌∙◌, arith, add-zero, append_assoc, append-nil}
use Rattle.std.specs.Prelude.{◌&&◌, filter}
use Rattle.std.proofs.lemmas.List.{map-append}
use Rattle.yf_comments.specs.Comment.{CommentValue}
use Rattle.yf_comments.specs.GapLines.{GapLine, remarks_of}
use Rattle.yf_laws.proofs.SameReading.RowSteps.{leaves_begin, steps_with}
use Rattle.yf_laws.specs.Layouts.RowComments.{carried_texts}
use Rattle.yf_laws.specs.Layouts.Decorated.{Deco, after, blank_if, comments_left, decos_of, ending_after, first, gap_of, remarks_after}
use Rattle.yf_laws.specs.Layouts.Layout.{Source, may_be_blank_after, precedes_item, trailing}
use Rattle.yf_forms.specs.Nodes.Lines.{trimmed}
use Rattle.yf_print.specs.Layouts.Rows.{Row, Ending, anywhere}
use Rattle.yf_laws.proofs.Derived.LayoutSteps.{Step, a_comment, a_leaf, comment_steps, leaf_steps, steps_in, comments_of}
use Rattle.yf_laws.proofs.SameReading.StartsBefore.{AllFrom, AllBelow, starts_before, none_before, all_before}
use Rattle.yf_print.specs.Layouts.KeptColumns.{Columns}

abbrev pub trimmed_texts : List CommentValue → List (List ℕ)
trimmed_texts ds = map (λ d. trimmed d.text) ds

-- the steps of rows with the comments that are left; f returns what begins on a row
abbrev pub printed_steps : (Row → List Step) → Source → List CommentValue → List Row → List Step
printed_steps f c comments [] = comment_steps (trimmed_texts comments)
printed_steps f c comments (row ∷ rows) =
    comment_steps (trimmed_texts (filter (precedes_item row) comments))
    ++ (f row ++ (comment_steps (trimmed_texts (trailing c row)) ++ printed_steps f c (comments_left row comments) rows))

pub steps_of_leaves : (rows : List Row) (ds : List Deco) → steps_in rows ds ≡ steps_with leaves_begin rows ds
steps_of_leaves [] ds = refl
steps_of_leaves (x ∷ xs) ds = ap (λ w. leaf_steps x.leaves ++ (comment_steps (carried_texts (first ds)) ++ w)) (steps_of_leaves xs (after ds))

-- The steps of what rows carry.

remarks_append : (gs hs : List GapLine) → remarks_of (gs ++ hs) ≡ remarks_of gs ++ remarks_of hs
remarks_append [] hs = refl
remarks_append (GapLine.blank ∷ gs) hs = remarks_append gs hs
remarks_append (GapLine.remark column text ∷ gs) hs = ap (λ w. text ∷ w) (remarks_append gs hs)

remarks_blank : (b : Bool) (gs : List GapLine) → remarks_of (blank_if b ++ gs) ≡ remarks_of gs
remarks_blank true gs = refl
remarks_blank false gs = refl

remarks_are : (g : Columns) (before : Ending) (column : ℕ) (cs : List CommentValue) → remarks_of (remarks_after g before column cs) ≡ trimmed_texts cs
remarks_are g before column [] = refl
remarks_are g before column (c ∷ cs) =
    remarks_blank (may_be_blank_after before && c.blank_before) (GapLine.remark (g c column) (trimmed c.text) ∷ remarks_after g anywhere column cs)
    ∙ ap (λ w. trimmed c.text ∷ w) (remarks_are g anywhere column cs)

remarks_then : (g : Columns) (before : Ending) (column : ℕ) (cs : List CommentValue) (b : Bool) → remarks_of (remarks_after g before column cs ++ blank_if b) ≡ trimmed_texts cs
remarks_then g before column cs b =
    remarks_append (remarks_after g before column cs) (blank_if b) ∙ (ap (λ w. remarks_of (remarks_after g before column cs) ++ w) (none b)
    ∙ (append-nil (remarks_of (remarks_after g before column cs)) ∙ remarks_are g before column cs)) where
      none : (b : Bool) → remarks_of (blank_if b) ≡ []
      none true = refl
      none false = refl

comments_apart : (xs ys : List (List ℕ)) (r : List Step) → comment_steps (xs ++ ys) ++ r ≡ comment_steps xs ++ (comment_steps ys ++ r)
comments_apart xs ys r = ap (λ w. w ++ r) (map-append (λ (x : List ℕ). a_comment x) xs ys) ∙ append_assoc (comment_steps xs) (comment_steps ys) r

pub steps_printed : (g : Columns) (f : Row → List Step) (c : Source) (before : Ending) (comments : List CommentValue) (rows : List Row)
    → comment_steps (remarks_of (gap_of g before comments rows)) ++ steps_with f rows (decos_of g c comments rows) ≡ printed_steps f c comments rows
steps_printed g f c before comments [] = append-nil (comment_steps (remarks_of (remarks_after g before 0 comments))) ∙ ap comment_steps (remarks_are g before 0 comments)
steps_printed g f c before comments (row ∷ rows) =
    let left : List CommentValue = comments_left row comments in
    let ahead : List CommentValue = filter (precedes_item row) comments in
    let trails : List (List ℕ) = trimmed_texts (trailing c row) in
    let gap : List (List ℕ) = remarks_of (gap_of g row.ending left rows) in
    ap (λ w. comment_steps w ++ (f row ++ (comment_steps (trails ++ gap) ++ steps_with f rows (decos_of g c left rows))))
    (remarks_then g before row.column ahead (may_be_blank_after (ending_after before ahead) && row.blank_before))
    ∙ ap (λ w. comment_steps (trimmed_texts ahead) ++ (f row ++ w))
    (comments_apart trails gap (steps_with f rows (decos_of g c left rows)) ∙ ap (λ w. comment_steps trails ++ w) (steps_printed g f c row.ending left rows))

-- The numbers that they give.

abbrev pub trimmed_by : (ℕ → ℕ) → List CommentValue → List (List ℕ × ℕ)
trimmed_by n cs = map (λ c. (trimmed c.text, n c.offset)) cs

abbrev each_at : ℕ → List (List ℕ) → List (List ℕ × ℕ)
each_at n xs = map (λ x. (x, n)) xs

told_comments : (n : ℕ) (xs : List (List ℕ)) (rest : List Step) → comments_of n (comment_steps xs ++ rest) ≡ each_at n xs ++ comments_of n rest
told_comments n [] rest = refl
told_comments n (x ∷ xs) rest = ap (λ w. (x, n) ∷ w) (told_comments n xs rest)

-- that many starts
abbrev pub begun : List ℕ → List Step
begun ss = map (λ s. a_leaf) ss

told_begun : (n : ℕ) (ss : List ℕ) (rest : List Step) → comments_of n (begun ss ++ rest) ≡ comments_of (n + length ss) rest
told_begun n [] rest = ap (λ m. comments_of m rest) (sym (add-zero n))
told_begun n (s ∷ ss) rest =
    let same : (n + 1) + length ss ≡ n + suc (length ss) = omega arith in
    told_begun (n + 1) ss rest ∙ ap (λ m. comments_of m rest) same

-- each of these comments is before these offsets, or each is after them
pub data AllLater : List CommentValue → List ℕ → Type 0 where
  no_later : {ss : List ℕ} → AllLater [] ss
  more_later : {d : CommentValue} {ds : List CommentValue} {ss : List ℕ} → AllFrom d.offset ss → AllLater ds ss → AllLater (d ∷ ds) ss

pub data AllEarlier : List CommentValue → List ℕ → Type 0 where
  no_earlier : {ss : List ℕ} → AllEarlier [] ss
  more_earlier : {d : CommentValue} {ds : List CommentValue} {ss : List ℕ} → AllBelow d.offset ss → AllEarlier ds ss → AllEarlier (d ∷ ds) ss

later_told : {ds : List CommentValue} {ss : List ℕ} (n : ℕ) → AllLater ds ss → each_at n (trimmed_texts ds) ≡ trimmed_by (λ o. n + starts_before ss o) ds
later_told n no_later = refl
later_told n (more_later {d = d} {ds = ds} {ss = ss} l a) =
    let none : starts_before ss d.offset ≡ 0 = none_before l in
    let same : n ≡ n + starts_before ss d.offset = omega (arith, none) in
    ap (λ w. (trimmed d.text, w) ∷ each_at n (trimmed_texts ds)) same ∙ ap (λ w. (trimmed d.text, n + starts_before ss d.offset) ∷ w) (later_told n a)

earlier_told : {ds : List CommentValue} {ss : List ℕ} (n : ℕ) (rs : List ℕ) → AllEarlier ds ss
    → trimmed_by (λ o. (n + length ss) + starts_before rs o) ds ≡ trimmed_by (λ o. n + starts_before (ss ++ rs) o) ds
earlier_told n rs no_earlier = refl
earlier_told n rs (more_earlier {d = d} {ds = ds} {ss = ss} l a) =
    let all : starts_before (ss ++ rs) d.offset ≡ length ss + starts_before rs d.offset = all_before rs l in
    let same : (n + length ss) + starts_before rs d.offset ≡ n + starts_before (ss ++ rs) d.offset = omega (arith, all) in
    ap (λ w. (trimmed d.text, w) ∷ trimmed_by (λ o. (n + length ss) + starts_before rs o) ds) same
    ∙ ap (λ w. (trimmed d.text, n + starts_before (ss ++ rs) d.offset) ∷ w) (earlier_told n rs a)

-- Rows that cut the comments; own says which comments trail nothing, f returns what begins on a row, and the last list
-- has the offsets of all of that.
pub data Cuts (f : Row → List Step) (c : Source) (own : CommentValue → Bool) : List CommentValue → List Row → List ℕ → Type 0 where
  none_cut : {left : List CommentValue} → filter own left ≡ left → Cuts f c own left [] []
  row_cut : {left : List CommentValue} {row : Row} {rows : List Row} {rest : List ℕ} (ss : List ℕ) (ahead more : List CommentValue) → f row ≡ begun ss → left ≡ ahead ++ (trailing c row ++ more)
      → filter (precedes_item row) (filter own left) ≡ ahead → comments_left row (filter own left) ≡ filter own more
      → AllLater ahead (ss ++ rest) → AllLater (trailing c row) rest
      → AllEarlier (trailing c row ++ more) ss → Cuts f c own more rows rest → Cuts f c own left (row ∷ rows) (ss ++ rest)

trimmed_append : (n : ℕ → ℕ) (xs ys : List CommentValue) → trimmed_by n (xs ++ ys) ≡ trimmed_by n xs ++ trimmed_by n ys
trimmed_append n [] ys = refl
trimmed_append n (x ∷ xs) ys = ap (λ w. (trimmed x.text, n x.offset) ∷ w) (trimmed_append n xs ys)

rest_told : (n : ℕ) (ds : List CommentValue) → comments_of n (comment_steps (trimmed_texts ds)) ≡ trimmed_by (λ o. n + starts_before [] o) ds
rest_told n [] = refl
rest_told n (d ∷ ds) =
    let same : n ≡ n + starts_before [] d.offset = sym (add-zero n) in
    ap (λ w. (trimmed d.text, w) ∷ comments_of n (comment_steps (trimmed_texts ds))) same ∙ ap (λ w. (trimmed d.text, n + starts_before [] d.offset) ∷ w) (rest_told n ds)

pub cuts_told : {f : Row → List Step} {c : Source} {own : CommentValue → Bool} {left : List CommentValue} {rows : List Row} {all : List ℕ} → Cuts f c own left rows all → (n : ℕ)
    → comments_of n (printed_steps f c (filter own left) rows) ≡ trimmed_by (λ o. n + starts_before all o) left
cuts_told {own = own} {left = left} (none_cut e) n = ap (λ ds. comments_of n (comment_steps (trimmed_texts ds))) e ∙ rest_told n left
cuts_told {f} {c} {own} {left} (row_cut {row = row} {rows = rows} {rest = rs} ss ahead more g split before after a b d cuts) n =
    let m : ℕ = n + length ss in
    let trails : List CommentValue = trailing c row in
    let further : List Step = printed_steps f c (comments_left row (filter own left)) rows in
    let inner : comments_of n (f row ++ (comment_steps (trimmed_texts trails) ++ further)) ≡ trimmed_by (λ o. m + starts_before rs o) (trails ++ more) =
    ap (λ w. comments_of n (w ++ (comment_steps (trimmed_texts trails) ++ further))) g
    ∙ (told_begun n ss (comment_steps (trimmed_texts trails) ++ further)
    ∙ (told_comments m (trimmed_texts trails) further
    ∙ (ap (λ w. each_at m (trimmed_texts trails) ++ comments_of m (printed_steps f c w rows)) after
    ∙ (ap (λ w. each_at m (trimmed_texts trails) ++ w) (cuts_told cuts m)
    ∙ (ap (λ w. w ++ trimmed_by (λ o. m + starts_before rs o) more) (later_told m b) ∙ sym (trimmed_append (λ o. m + starts_before rs o) trails more)))))) in
    ap (λ w. comments_of n (comment_steps (trimmed_texts w) ++ (f row ++ (comment_steps (trimmed_texts trails) ++ further)))) before
    ∙ (told_comments n (trimmed_texts ahead) (f row ++ (comment_steps (trimmed_texts trails) ++ further))
    ∙ (ap (λ w. each_at n (trimmed_texts ahead) ++ w) (inner ∙ earlier_told n rs d)
    ∙ (ap (λ w. w ++ trimmed_by (λ o. n + starts_before (ss ++ rs) o) (trails ++ more)) (later_told n a)
    ∙ (sym (trimmed_append (λ o. n + starts_before (ss ++ rs) o) ahead (trails ++ more))
    ∙ ap (trimmed_by (λ o. n + starts_before (ss ++ rs) o)) (sym split)))))
