-- Comments on lines of their own stay in their blocks.
use Rattle.std.proofs.Common.{◌≡◌, ℕ, ◌+◌, ◌<◌, Bool, true, false, true≢false, List, [], ◌∷◌, ◌++◌, length, Option, Some, None, refl, sym, ap, ◌∙◌, subst, arith}
use Rattle.std.specs.Prelude.{◌||◌, filter, if◌then◌else◌, not}
use Rattle.std.proofs.lemmas.Bool.{ne_eqb}
use Rattle.std.proofs.lemmas.List.{length-map}
use Rattle.std.proofs.lemmas.Option.{same_Some}
use Rattle.yf_chars.proofs.Tests.{none_some}
use Rattle.yf_comments.specs.Comment.{CommentValue}
use Rattle.yf_events.specs.declared.lists.Lists.{Lists}
use Rattle.yf_events.proofs.TreeLemmas.{trees_unique}
use Rattle.yf_forms.proofs.Decide.FlagLemmas.{same as equal_to}
use Rattle.yf_forms.specs.NormalForms.BareStart.{is_bare}
use Rattle.yf_forms.specs.NormalForms.Normal.{setting_of}
use Rattle.yf_forms.specs.Nodes.Lines.{trimmed}
use Rattle.yf_forms.specs.declared.style.Style.{Style}
use Rattle.yf_print.specs.Layouts.CommentColumns.{Beginning, begins_document, begins_entry, begins_node, at_margin, column_among, column_at, column_before_new, column_in, column_left, comment_column, goes_on, inward_from, is_source, not_ended, or_else}
use Rattle.yf_print.specs.Layouts.KeptColumns.{Columns, after_row, column_above, columns_if, keeps_blocks, precedes_item}
use Rattle.yf_print.specs.Layouts.Rows.{Ending, Row, anywhere, at_text_start}
use Rattle.yf_print.specs.Layouts.SourceColumns.{own_column}
use Rattle.yf_print.specs.declared.open_blocks.OpenBlock.{OpenBlock}
use Rattle.yf_laws.specs.Layouts.Decorated.{Deco, GapLine, comments_left, decos_of, gap_of}
use Rattle.yf_laws.specs.Layouts.Layout.{Source, may_be_blank_after, own_line_comments, source_of}
use Rattle.yf_laws.specs.Layouts.RowShapes.{RowShape, shape_of}
use Rattle.yf_laws.specs.Preservation.CommentsPlaced.{columns_in, rows_in, source_in}
use Rattle.yf_laws.specs.Preservation.ReadingKey.{Each, none_each, one_each}
use Rattle.yf_laws.specs.Settings.CommentBlocks.{AreKeptIn, CommentsStayInBlocks, IsKeptAt, IsKeptBefore, before_end, block_at, column_of_block, goes_by_open, kept_at_end, kept_before, none_open, open_past}
use Rattle.yf_laws.proofs.Columns.FormattedSet.{reading_set}
use Rattle.yf_laws.proofs.Columns.SetMeant.{BlockAt}
use Rattle.yf_laws.proofs.Columns.SetNodes.{SetDocuments}
use Rattle.yf_laws.proofs.OutputLines.ColumnsHold.{WalkAbove, WalkFrom, above_walk, every, left_walk}
use Rattle.yf_laws.proofs.ReadAgain.BlanksAgain.{blanks_found}
use Rattle.yf_laws.proofs.ReadAgain.GapsAgain.{Blanks, first_remark, gap_at_end, gap_more, gap_with, last_line}
use Rattle.yf_laws.proofs.ReadAgain.ReadingsAgain.{OwnCarried, alone_carried, rows_carried}
use Rattle.yf_laws.proofs.ReadAgain.RowTies.{first_shape, other_shapes}
use Rattle.yf_laws.proofs.ReadAgain.RowsAgain.{Carry, apart_left, kept_first, last_carries, row_carries}
use Rattle.yf_laws.proofs.SameReading.CommentsCut.{each_map, each_none, each_more, Each as AllOf}
use Rattle.yf_laws.proofs.SecondRun.AlikeLemmas.{shapes}
use Rattle.yf_laws.proofs.SecondRun.ColumnsAgain.{all_printed, as_printed}
use Rattle.yf_laws.proofs.SecondRun.ColumnsStay.{AllAtColumns, after_found, all_at, row_at_columns}
use Rattle.yf_laws.proofs.SecondRun.FixedLawsHold.{found_reading}
use Rattle.yf_laws.proofs.SecondRun.FixedRows.{found_rows}
use Rattle.yf_laws.proofs.SecondRun.FormatsFixed.{again_carried}

-- Columns.

-- the open collection at a column, and its printed column
record BlockFound (k n : ℕ) (bs : List OpenBlock) : Type 0 where
  column : ℕ
  found : column_at k bs ≡ Some column
  printed : column_of_block n (all_printed bs) ≡ Some column
  inside : n < length bs

block_found : (k n : ℕ) (bs : List OpenBlock) → block_at k bs ≡ Some n → BlockFound k n bs
block_found k n [] e = absurd (none_some e)
block_found k n (b ∷ bs) e = go (is_source k b.source) refl (λ f. block_found k n bs f) e where
  long : length (all_printed bs) ≡ length bs
  long = length-map bs as_printed

  go : (p : Bool) → is_source k b.source ≡ p → (block_at k bs ≡ Some n → BlockFound k n bs) → (if p then Some (length bs) else block_at k bs) ≡ Some n → BlockFound k n (b ∷ bs)
  go true f rest g =
      let same : length bs ≡ n = same_Some (length bs) n g in
      record {
        column = b.printed;
        found = ap (λ p. if p then Some b.printed else column_at k bs) f;
        printed = ap (λ p. if p then Some b.printed else column_of_block n (all_printed bs)) (equal_to n (length (all_printed bs)) (sym same ∙ sym long));
        inside = omega (arith, same);
      }
  go false f rest g =
      let w = rest g in
      let less : n < length bs = w.inside in
      record {
        column = w.column;
        found = ap (λ p. if p then Some b.printed else column_at k bs) f ∙ w.found;
        printed = ap (λ p. if p then Some b.printed else column_of_block n (all_printed bs)) (ne_eqb n (length (all_printed bs)) (λ z. omega (arith, z, long, less))) ∙ w.printed;
        inside = omega (arith, less);
      }

no_block : (k : ℕ) (bs : List OpenBlock) → block_at k bs ≡ None → column_at k bs ≡ None
no_block k [] e = refl
no_block k (b ∷ bs) e = go (is_source k b.source) refl (λ f. no_block k bs f) e where
  go : (p : Bool) → is_source k b.source ≡ p → (block_at k bs ≡ None → column_at k bs ≡ None) → (if p then Some (length bs) else block_at k bs) ≡ None → column_at k (b ∷ bs) ≡ None
  go true f rest g = absurd (none_some (sym g))
  go false f rest g = ap (λ p. if p then Some b.printed else column_at k bs) f ∙ rest g

-- a comment that follows the open collections is at the column that is found, and otherwise at the margin
by_open : (indent : ℕ) (may : Bool) (next k c : ℕ) (begin : Beginning) (bs : List OpenBlock) → ((other : ℕ) → or_else (column_at k bs) (at_margin k bs other) ≡ c) → goes_by_open k begin bs ≡ true → column_in indent may next k begin bs ≡ c
by_open indent may next k c begins_node bs f e = absurd (true≢false (sym e))
by_open indent may next k c begins_document bs f e = f (or_else (column_left indent may k bs) next)
by_open indent may next k c (begins_entry y) bs f e = go (goes_on y (not_ended y bs)) e where
  go : (p : Bool) → (p || not (is_source k y.source)) ≡ true → (if p then column_among indent may next k (inward_from y bs) bs else column_before_new next k y.source bs) ≡ c
  go true g = f (or_else (column_left indent may k (inward_from y bs)) next)
  go false g = old (is_source k y.source) g where
    old : (p : Bool) → not p ≡ true → (if p then next else or_else (column_at k bs) (at_margin k bs next)) ≡ c
    old true h = absurd (true≢false (sym h))
    old false h = f next

at_zero : (bs : List OpenBlock) (other : ℕ) → 0 < length bs → at_margin 0 bs other ≡ 0
at_zero [] other l = absurd (omega (arith, l))
at_zero (b ∷ bs) other l = refl

next_either : (b : Bool) (next : ℕ) → (if b then next else next) ≡ next
next_either true next = refl
next_either false next = refl

at_text : (indent : ℕ) (may : Bool) (next : ℕ) (o : Option ℕ) (bs : List OpenBlock) → comment_column indent may next o begins_node bs ≡ next
at_text indent may next None bs = refl
at_text indent may next (Some k) bs = refl

-- One comment, which is found at the column that it was laid out at.
kept_at : {t u : List ℕ} (s : Style) {bs os : List OpenBlock} {is_first : Bool} (may : Bool) {begin : Beginning} {d e : CommentValue} (next column : ℕ) → os ≡ all_printed bs → trimmed e.text ≡ trimmed d.text → own_column u e.offset ≡ Some column
    → column ≡ (if is_first then comment_column s.indent may next (own_column t d.offset) begin bs else next) → IsKeptAt t u (record { blocks = record { text = bs; formatting = os }; next = next; begin = begin }) is_first d e
kept_at {t} {u} s {bs} {os} {is_first} may {begin} {d} {e} next column opened text alone laid = record {
  text = text;
  column = column;
  alone = alone;
  aligned = aligned;
  margin = margin;
  not_alone = λ o. laid ∙ (ap (λ z. if is_first then comment_column s.indent may next z begin bs else next) o ∙ next_either is_first next);
  not_first = λ f. laid ∙ ap (λ z. if z then comment_column s.indent may next (own_column t d.offset) begin bs else next) f;
  before_text = λ b. laid ∙ (ap (λ z. if is_first then comment_column s.indent may next (own_column t d.offset) z bs else next) b
      ∙ (ap (λ z. if is_first then z else next) (at_text s.indent may next (own_column t d.offset) bs) ∙ next_either is_first next));
} where
  at_column : (k : ℕ) → is_first ≡ true → own_column t d.offset ≡ Some k → column ≡ column_in s.indent may next k begin bs
  at_column k f o =
      laid ∙ (ap (λ z. if z then comment_column s.indent may next (own_column t d.offset) begin bs else next) f ∙ ap (λ z. comment_column s.indent may next z begin bs) o)

  aligned : (k n : ℕ) → is_first ≡ true → own_column t d.offset ≡ Some k → goes_by_open k begin bs ≡ true → block_at k bs ≡ Some n → column_of_block n os ≡ Some column
  aligned k n f o g b =
      let w = block_found k n bs b in
      let is : column_in s.indent may next k begin bs ≡ w.column = by_open s.indent may next k w.column begin bs (λ other. ap (λ z. or_else z (at_margin k bs other)) w.found) g in
      ap (column_of_block n) opened ∙ (w.printed ∙ ap Some (sym (at_column k f o ∙ is)))

  margin : is_first ≡ true → own_column t d.offset ≡ Some 0 → goes_by_open 0 begin bs ≡ true → 0 < length bs → block_at 0 bs ≡ None → column ≡ 0
  margin f o g l b =
      at_column 0 f o ∙ by_open s.indent may next 0 0 begin bs (λ other. ap (λ z. or_else z (at_margin 0 bs other)) (no_block 0 bs b) ∙ at_zero bs other l) g

-- The comments of a gap.

gap_kept : {u : List ℕ} {P : CommentValue → CommentValue → Type 0} (g : Columns) (column : ℕ) (a : Bool) (ending : Ending) {ds es : List CommentValue} {b : Bool} → Blanks u (may_be_blank_after ending) false (gap_with g ending column ds a) es b
    → AllOf (λ d. (e : CommentValue) → trimmed e.text ≡ trimmed d.text → own_column u e.offset ≡ Some (g d column) → P d e) ds → Each P ds es
gap_kept {u} {P} g column a ending {es = es} w each_none = subst (λ z. Each P [] z) (sym (last_line (may_be_blank_after ending) a w).none) none_each
gap_kept {u} {P} g column a ending {es = es} {b = b} w (each_more {d = d} {ds = ds} f more) =
    let r = first_remark (may_be_blank_after ending) d.blank_before (g d column) (subst (λ z. Blanks u (may_be_blank_after ending) false z es b) (gap_more g ending column d ds a) w) in
    subst (λ z. Each P (d ∷ ds) z) (sym r.are) (one_each (f r.c r.text_is r.own) (gap_kept g column a anywhere r.more more))

-- Along the rows.

abbrev first_gap_of : List Deco → List GapLine
first_gap_of [] = []
first_gap_of (d ∷ ds) = d.gap

abbrev other_decos : List Deco → List Deco
other_decos [] = []
other_decos (d ∷ ds) = ds

after_open : (t u : List ℕ) (bs : List OpenBlock) {os : List OpenBlock} (x y : Row) (xs : List Row) {ys : List Row} → os ≡ all_printed bs → AllAtColumns u (y ∷ ys) → shapes (x ∷ xs) ≡ shapes (y ∷ ys) → after_row u y os ≡ all_printed (after_row t x bs)
after_open t u bs x y xs opened (row_at_columns a more) same =
    let one : shape_of x ≡ shape_of y = ap (first_shape (shape_of x)) same in
    ap (after_row u y) opened ∙ after_found t u x y bs a (ap (λ (z : RowShape). z.starts) one) (ap (λ (z : RowShape). z.leaves) one)

other_columns : {u : List ℕ} {y : Row} {ys : List Row} → AllAtColumns u (y ∷ ys) → AllAtColumns u ys
other_columns (row_at_columns a more) = more

module _ {t u : List ℕ} {s : Style} {g : Columns} (mc : Source) (block : keeps_blocks s ≡ true) where
  above_kept : {bs os : List OpenBlock} {may : Bool} (x : Row) {ds : List CommentValue} → os ≡ all_printed bs → AllOf (WalkAbove t s g bs may x) ds
      → AllOf (λ d. (e : CommentValue) → trimmed e.text ≡ trimmed d.text → own_column u e.offset ≡ Some (g d x.column) → IsKeptBefore t u (record { text = bs; formatting = os }) x d e) ds
  above_kept {bs} {os} {may} x opened w =
      each_map (λ d i v e text alone.
      kept_at s may x.column (g d x.column) opened text alone
      (v.is x.column ∙ ap (λ z. columns_if z (column_above t s bs may x d) x.column) block)) w

  end_kept : {bs os : List OpenBlock} {may : Bool} {ds : List CommentValue} → os ≡ all_printed bs → AllOf (WalkFrom t s g bs may []) ds
      → AllOf (λ d. (e : CommentValue) → trimmed e.text ≡ trimmed d.text → own_column u e.offset ≡ Some (g d 0) → IsKeptAt t u (before_end (record { text = bs; formatting = os })) true d e) ds
  end_kept {bs} {os} {may} opened w =
      each_map (λ d i v e text alone.
      kept_at s may 0 (g d 0) opened text alone
      (v.is 0 ∙ ap (λ z. columns_if z (comment_column s.indent may 0 (own_column t d.offset) begins_document bs) 0) block)) w

  at_end : {bs os : List OpenBlock} {may : Bool} {cs es : List CommentValue} {gap : List GapLine} (e f : Ending) → os ≡ all_printed bs → e ≡ f → gap ≡ gap_of g e cs [] → Blanks u (may_be_blank_after f) false gap es false → AllOf (WalkFrom t s g bs may []) cs
      → AreKeptIn t u (record { text = bs; formatting = os }) [] [] cs es
  at_end {cs = cs} {es = es} {gap = gap} e f opened same is w walk =
      kept_at_end (gap_kept g 0 false e (subst (λ z. Blanks u (may_be_blank_after e) false z es false) (is ∙ gap_at_end g e cs) (subst (λ z. Blanks u (may_be_blank_after z) false gap es false) (sym same) w)) (end_kept opened walk))

  above_row : {bs os : List OpenBlock} {may : Bool} {cs here : List CommentValue} {gap : List GapLine} {b : Bool} (e f : Ending) (x : Row) (xs : List Row) → os ≡ all_printed bs → e ≡ f → gap ≡ gap_of g e cs (x ∷ xs) → Blanks u (may_be_blank_after f) false gap here b
      → AllOf (WalkFrom t s g bs may (x ∷ xs)) cs
      → Each (IsKeptBefore t u (record { text = bs; formatting = os }) x) (filter (precedes_item x) cs) here
  above_row {here = here} {gap = gap} {b = b} e f x xs opened same is w walk =
      gap_kept g x.column x.blank_before e (subst (λ z. Blanks u (may_be_blank_after e) false z here b) is (subst (λ z. Blanks u (may_be_blank_after z) false gap here b) (sym same) w)) (above_kept x opened (above_walk walk))

  rows_kept : (x : Row) (cs : List CommentValue) {y : Row} {ys : List Row} {c : Source} {bs os : List OpenBlock} {may : Bool} {es : List CommentValue} {ds : List Deco} (xs : List Row) → Carry u g c (y ∷ ys) ds es → ds ≡ decos_of g mc cs (x ∷ xs) → os ≡ all_printed bs
      → AllAtColumns u (y ∷ ys) → shapes (x ∷ xs) ≡ shapes (y ∷ ys) → AllOf (WalkFrom t s g bs may xs) (comments_left x cs) → AreKeptIn t u (record { text = bs; formatting = os }) xs ys (comments_left x cs) es
  rows_kept x cs {y} [] (last_carries hs r q w) e opened a same walk =
      let one : shape_of x ≡ shape_of y = ap (first_shape (shape_of x)) same in
      at_end x.ending y.ending opened (ap (λ (z : RowShape). z.ending) one) (ap first_gap_of e) w walk
  rows_kept x cs (z ∷ xs) (last_carries hs r q w) e opened a same walk = absurd (let rest : shapes (z ∷ xs) ≡ [] = ap other_shapes same in cc)
  rows_kept x cs [] (row_carries {next = v} {rows = ys} hs b r q w apart more) e opened a same walk = absurd (let rest : [] ≡ shapes (v ∷ ys) = ap other_shapes same in cc)
  rows_kept x cs {y} {bs = bs} {os = os} (z ∷ xs) (row_carries {next = v} {rows = ys} {here = here} {left = left} hs b r q w apart more) e opened a same walk =
      let one : shape_of x ≡ shape_of y = ap (first_shape (shape_of x)) same in
      let rest : shapes (z ∷ xs) ≡ shapes (v ∷ ys) = ap other_shapes same in
      let columns = other_columns a in
      let first : filter (precedes_item v) (here ++ left) ≡ here = kept_first (precedes_item v) here left apart.before apart.follows in
      kept_before (subst (λ k. Each (IsKeptBefore t u (record { text = bs; formatting = os }) z) (filter (precedes_item z) (comments_left x cs)) k) (sym first) (above_row x.ending y.ending z xs opened (ap (λ (n : RowShape). n.ending) one) (ap first_gap_of e) w walk))
      (subst (λ k. AreKeptIn t u (open_past t u z v (record { text = bs; formatting = os })) xs ys (comments_left z (comments_left x cs)) k) (sym (apart_left apart))
      (rows_kept z (comments_left x cs) xs more (ap other_decos e) (after_open t u bs z v xs opened columns rest) columns rest (left_walk walk)))

  all_kept : {ys : List Row} {q : Lists} {cs : List CommentValue} {gap : List GapLine} {ds : List Deco} (xs : List Row) → OwnCarried u g q ys gap ds → gap ≡ gap_of g at_text_start cs xs → ds ≡ decos_of g mc cs xs → AllAtColumns u ys
      → shapes xs ≡ shapes ys → AllOf (WalkFrom t s g [] true xs) cs → AreKeptIn t u none_open xs ys cs (own_line_comments (source_of q ys) ys)
  all_kept {cs = cs} [] (alone_carried firsts own w) f e a same walk = subst (λ k. AreKeptIn t u none_open [] [] cs k) (sym own) (at_end at_text_start at_text_start refl refl f w walk)
  all_kept (x ∷ xs) (alone_carried firsts own w) f e a same walk = absurd cc
  all_kept [] (rows_carried firsts others own w apart carry) f e a same walk = absurd cc
  all_kept {cs = cs} (x ∷ xs) (rows_carried {row = y} {rows = ys} firsts others own w apart carry) f e a same walk =
      let first : filter (precedes_item y) (firsts ++ others) ≡ firsts = kept_first (precedes_item y) firsts others apart.before apart.follows in
      subst (λ k. AreKeptIn t u none_open (x ∷ xs) (y ∷ ys) cs k) (sym own)
      (kept_before (subst (λ k. Each (IsKeptBefore t u none_open x) (filter (precedes_item x) cs) k) (sym first) (above_row at_text_start at_text_start x xs refl refl f w walk))
      (subst (λ k. AreKeptIn t u (open_past t u x y none_open) xs ys (comments_left x cs) k) (sym (apart_left apart)) (rows_kept x cs xs carry e (after_open t u [] x y xs refl a same) a same (left_walk walk))))

pub comments_stay_in_blocks : CommentsStayInBlocks
comments_stay_in_blocks t u s q utf8 f a block =
    let m : Lists = f.normal in
    let xs : List Row = rows_in f in
    let w = found_reading t u s q utf8 f a in
    let carried = again_carried q utf8 f a w (blanks_found t u s q utf8 f a w) in
    let set = reading_set utf8 f a in
    let there : SetDocuments u s (BlockAt u) a.trees = subst (λ z. SetDocuments u s (BlockAt u) z) (trees_unique q set.trees a.trees set.of_reading a.of_reading) set.set in
    all_kept {t = t} {g = columns_in f} (source_in f) block xs carried.own refl refl (all_at u (setting_of q s) (is_bare q s) q.documents a.trees there) (found_rows (is_bare m s) (is_bare q s) w.bare w.alike)
    (every (λ d. record { is = λ next. refl }) (own_line_comments (source_in f) xs))
