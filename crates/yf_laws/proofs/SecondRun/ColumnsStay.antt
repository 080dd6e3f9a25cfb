-- Each comment on a line of its own that was laid out at its column is found there, and is laid out at that column
-- again.
use Rattle.std.proofs.Common.{◌≡◌, ℕ, ◌+◌, ◌<◌, ◌≤◌, Bool, true, false, true≢false, List, [], ◌∷◌, ◌++◌, length, map, Option, Some, None, refl, sym, ap, ◌∙◌, subst, arith}
use Rattle.std.specs.Prelude.{◌-◌, ◌==◌, ◌&&◌, not, nat_lt, if◌then◌else◌}
use Rattle.std.proofs.lemmas.Bool.{or_parts}
use Rattle.std.specs.Str.{IsUtf8}
use Rattle.yf_comments.specs.Comment.{CommentValue}
use Rattle.yf_props.specs.Props.{PropsValue}
use Rattle.yf_events.specs.Tree.{DocumentTree, Node, NodeOffsets, scalar, alias, sequence, mapping, Items, no_items, item, Pairs, no_pairs, pair, entry_start, starts_of_entry}
use Rattle.yf_events.specs.declared.directive.Directive.{Directive}
use Rattle.yf_events.specs.declared.document.Doc.{Doc}
use Rattle.yf_events.specs.declared.event.ScalarStyle.TheVariants.{Plain, Single, Double, Literal, Folded}
use Rattle.yf_events.specs.declared.event.Span.{Span}
use Rattle.yf_events.specs.declared.lists.Lists.{Lists}
use Rattle.yf_events.proofs.TreeLemmas.{trees_unique}
use Rattle.yf_stream.specs.ReadingOf.{ReadingOf}
use Rattle.yf_laws.specs.Format.{IsFormatting}
use Rattle.yf_forms.specs.NormalForms.BareStart.{is_bare}
use Rattle.yf_forms.specs.Nodes.OneLine.{props_text, written}
use Rattle.yf_forms.specs.NormalForms.Normal.{LayoutSetting, Margins, inner_margins, is_implicit, key_comment, key_margins, root_margins, setting_of, value_entries, value_of_implicit, value_margins}
use Rattle.yf_laws.specs.Preservation.CommentsPlaced.{columns_in}
use Rattle.yf_laws.proofs.Columns.FormattedSet.{reading_set}
use Rattle.yf_laws.proofs.Columns.SetMeant.{BlockAt}
use Rattle.yf_laws.proofs.Columns.SetNodes.{EntryOn, SetDocuments, set_document, SetItems, set_item, SetNode, set_line, set_sequence, set_mapping, SetPairs, set_pair, entries_after}
use Rattle.yf_laws.proofs.Derived.TreesMade.{either_pair}
use Rattle.yf_laws.proofs.SecondRun.FixedLawsHold.{FoundReading}
use Rattle.yf_laws.proofs.SecondRun.FixedRows.{found_rows}
use Rattle.yf_laws.proofs.Derived.FormatsRead.{formats_fit}
use Rattle.yf_forms.specs.declared.style.Style.{Style}
use Rattle.yf_print.specs.Layouts.CommentColumns.{Beginning, begins_document, begins_entry, comment_column, goes_on, is_ended_by, not_ended, open_after, placed_in}
use Rattle.yf_print.specs.declared.open_blocks.OpenBlock.{OpenBlock}
use Rattle.yf_laws.specs.Layouts.Decorated.{decos_of, first_gap, gap_of, row_decos, rows_of}
use Rattle.yf_print.specs.Layouts.KeptColumns.{Columns, after_row, after_starts, beginning, block_of, column_above, columns_if, is_before_first, is_bodyless, keeps_blocks, unless_document}
use Rattle.yf_laws.specs.Layouts.Layout.{Source, own_line_comments, source_of}
use Rattle.yf_laws.specs.Layouts.RowShapes.{RowShape, shape_of}
use Rattle.yf_print.specs.Layouts.Rows.{Ending, Row, Start, after_key, all_rows, at_text_start, beginning_at, begins_below, begun_at, colon_row, directive_row, end_rows, entry_row, joined, key_row, one_line_row, pair_rows, props_row, rows, rows_of_items, rows_of_pairs, start_row, stream_rows}
use Rattle.yf_print.specs.Layouts.SourceColumns.{own_column, source_column}
use Rattle.yf_laws.proofs.OutputLines.ChainedDocuments.{layout_chain}
use Rattle.yf_laws.proofs.OutputLines.OpenChains.{Chained, chain_over, chain_row}
use Rattle.yf_laws.proofs.OutputLines.ColumnsHold.{GapHolds, WalkFrom, above_walk, every, gap_holds, left_walk, remarks_hold}
use Rattle.yf_laws.proofs.ReadAgain.RowTies.{first_shape, other_shapes}
use Rattle.yf_laws.proofs.ReadAgain.RowsAgain.{AllStay, stays_end, stays_row, StaysAt}
use Rattle.yf_laws.proofs.SameReading.CommentsCut.{Each, each_map}
use Rattle.yf_laws.proofs.SecondRun.AlikeLemmas.{shapes}
use Rattle.yf_laws.proofs.SecondRun.ColumnsAgain.{InSteps, NextIsAt, all_printed, as_printed, begin_printed, column_again, next_document, next_stays, printed_goes_on, printed_not_ended}

-- Entries that are at their columns in the text.

abbrev pub AtColumns : List ℕ → List Start → Type 0
AtColumns u [] = Unit {0}
AtColumns u (s ∷ ss) = (source_column u s.offsets ≡ Some s.column) × AtColumns u ss

pub data AllAtColumns (u : List ℕ) : List Row → Type 0 where
  none_at_columns : AllAtColumns u []
  row_at_columns : {x : Row} {xs : List Row} → AtColumns u x.starts → AllAtColumns u xs → AllAtColumns u (x ∷ xs)

abbrev pub kinds : List Start → List (ℕ × Bool)
kinds ss = map (λ (s : Start). (s.column, s.is_item)) ss

block_found : (t u : List ℕ) (s r : Start) → source_column u r.offsets ≡ Some r.column → s.column ≡ r.column → s.is_item ≡ r.is_item → block_of u r ≡ as_printed (block_of t s)
block_found t u s r a e f =
    ap (λ z. record { source = z; printed = r.column; is_sequence = r.is_item }) a
    ∙ (ap (λ z. record { source = Some z; printed = z; is_sequence = r.is_item }) (sym e) ∙ ap (λ z. record { source = Some s.column; printed = s.column; is_sequence = z }) (sym f))

-- if all are at their columns, an entry isn't left of the collection around it
placed_printed : (y : OpenBlock) (bs : List OpenBlock) → placed_in (as_printed y) (all_printed (not_ended y bs)) ≡ as_printed y
placed_printed y [] = refl
placed_printed y (b ∷ bs) = go (is_ended_by y b) refl (placed_printed y bs) where
  go : (v : Bool) → is_ended_by y b ≡ v → placed_in (as_printed y) (all_printed (not_ended y bs)) ≡ as_printed y → placed_in (as_printed y) (all_printed (if v then not_ended y bs else b ∷ bs)) ≡ as_printed y
  go true e rest = rest
  go false e rest =
      let right : nat_lt y.printed b.printed ≡ false = (or_parts (nat_lt y.printed b.printed) ((y.printed == b.printed) && (b.is_sequence && not y.is_sequence)) e).0 in
      ap (λ z. record (as_printed y) { source = if z then None else Some y.printed }) right

open_printed : (y : OpenBlock) (bs : List OpenBlock) → open_after (as_printed y) (all_printed bs) ≡ all_printed (open_after y bs)
open_printed y bs =
    ap (λ z. if goes_on (as_printed y) z then z else placed_in (as_printed y) z ∷ z) (printed_not_ended y bs)
    ∙ (ap (λ v. if v then all_printed now else placed_in (as_printed y) (all_printed now) ∷ all_printed now) (printed_goes_on y now) ∙ go (goes_on y now)) where
      now : List OpenBlock
      now = not_ended y bs

      go : (v : Bool) → (if v then all_printed now else placed_in (as_printed y) (all_printed now) ∷ all_printed now) ≡ all_printed (if v then now else placed_in y now ∷ now)
      go true = refl
      go false = ap (λ z. z ∷ all_printed now) (placed_printed y bs)

starts_found : (t u : List ℕ) (ss rs : List Start) (bs : List OpenBlock) → AtColumns u rs → kinds ss ≡ kinds rs → after_starts u rs (all_printed bs) ≡ all_printed (after_starts t ss bs)
starts_found t u [] [] bs a e = refl
starts_found t u [] (r ∷ rs) bs a e = absurd cc
starts_found t u (s ∷ ss) [] bs a e = absurd cc
starts_found t u (s ∷ ss) (r ∷ rs) bs a e =
    let first : ◌≡◌ {A = ℕ × Bool} (s.column, s.is_item) (r.column, r.is_item) = cc in
    let rest : kinds ss ≡ kinds rs = cc in
    let block : block_of u r ≡ as_printed (block_of t s) = block_found t u s r a.0 (ap (λ (z : ℕ × Bool). z.0) first) (ap (λ (z : ℕ × Bool). z.1) first) in
    ap (λ z. after_starts u rs (open_after z (all_printed bs))) block
    ∙ (ap (λ z. after_starts u rs z) (open_printed (block_of t s) bs) ∙ starts_found t u ss rs (open_after (block_of t s) bs) a.1 rest)

unless_found : (ss rs : List Start) (ls ms : List Span) (bs : List OpenBlock) → kinds ss ≡ kinds rs → length ls ≡ length ms → unless_document rs ms (all_printed bs) ≡ all_printed (unless_document ss ls bs)
unless_found [] [] [] [] bs e f = refl
unless_found [] [] [] (m ∷ ms) bs e f = absurd (omega (arith, f))
unless_found [] [] (l ∷ ls) [] bs e f = absurd (omega (arith, f))
unless_found [] [] (l ∷ ls) (m ∷ ms) bs e f = refl
unless_found [] (r ∷ rs) ls ms bs e f = absurd cc
unless_found (s ∷ ss) [] ls ms bs e f = absurd cc
unless_found (s ∷ ss) (r ∷ rs) ls ms bs e f = refl

pub after_found : (t u : List ℕ) (x y : Row) (bs : List OpenBlock) → AtColumns u y.starts → kinds x.starts ≡ kinds y.starts → length x.leaves ≡ length y.leaves → after_row u y (all_printed bs) ≡ all_printed (after_row t x bs)
after_found t u x y bs a e f =
    ap (λ z. after_starts u y.starts z) (unless_found x.starts y.starts x.leaves y.leaves bs e f) ∙ starts_found t u x.starts y.starts (unless_document x.starts x.leaves bs) a e

beginning_found : (t u : List ℕ) (ss rs : List Start) (ls ms : List Span) → AtColumns u rs → kinds ss ≡ kinds rs → length ls ≡ length ms → beginning u rs ms ≡ begin_printed (beginning t ss ls)
beginning_found t u [] [] [] [] a e f = refl
beginning_found t u [] [] [] (m ∷ ms) a e f = absurd (omega (arith, f))
beginning_found t u [] [] (l ∷ ls) [] a e f = absurd (omega (arith, f))
beginning_found t u [] [] (l ∷ ls) (m ∷ ms) a e f = refl
beginning_found t u [] (r ∷ rs) ls ms a e f = absurd cc
beginning_found t u (s ∷ ss) [] ls ms a e f = absurd cc
beginning_found t u (s ∷ ss) (r ∷ rs) ls ms a e f =
    let first : ◌≡◌ {A = ℕ × Bool} (s.column, s.is_item) (r.column, r.is_item) = cc in
    ap begins_entry (block_found t u s r a.0 (ap (λ (z : ℕ × Bool). z.0) first) (ap (λ (z : ℕ × Bool). z.1) first))

-- The column at which a comment was laid out stays, if everything is at its column.

wide : (s : Style) → 0 < s.indent
wide s = let two : 2 ≤ s.indent = s.indent_from in omega (arith, two)

settled : (s : Style) (may : Bool) (next : ℕ) (k : Option ℕ) (begin : Beginning) (bs : List OpenBlock) (b : Bool) → InSteps s.indent bs → NextIsAt next begin
    → columns_if b (comment_column s.indent may next (Some (columns_if b (comment_column s.indent may next k begin bs) next)) (begin_printed begin) (all_printed bs)) next ≡ columns_if b (comment_column s.indent may next k begin bs) next
settled s may next k begin bs true i n = column_again s.indent may next k begin bs (wide s) i n
settled s may next k begin bs false i n = refl

above_settled : (t : List ℕ) (s : Style) (may : Bool) (x : Row) (d : CommentValue) (bs : List OpenBlock) (b : Bool) → InSteps s.indent bs → NextIsAt x.column (beginning t x.starts x.leaves)
    → columns_if b (comment_column s.indent may x.column (Some (columns_if b (column_above t s bs may x d) x.column)) (begin_printed (beginning t x.starts x.leaves)) (all_printed bs)) x.column ≡ columns_if b (column_above t s bs may x d) x.column
above_settled t s may x d bs false i n = refl
above_settled t s may x d bs true i n = go (is_before_first x.items d.offset) where
  go : (v : Bool) → comment_column s.indent may x.column (Some (if v then comment_column s.indent may x.column (own_column t d.offset) (beginning t x.starts x.leaves) bs else x.column)) (begin_printed (beginning t x.starts x.leaves)) (all_printed bs)
      ≡ (if v then comment_column s.indent may x.column (own_column t d.offset) (beginning t x.starts x.leaves) bs else x.column)
  go true = column_again s.indent may x.column (own_column t d.offset) (beginning t x.starts x.leaves) bs (wide s) i n
  go false = next_stays s.indent may x.column (beginning t x.starts x.leaves) bs (wide s) i n

-- if equal collections are open
stays_with : (s : Style) {may may2 : Bool} {next next2 : ℕ} {begin begin2 : Beginning} {bs bs2 : List OpenBlock} (k : ℕ) → may ≡ may2 → next ≡ next2 → begin ≡ begin2 → bs ≡ bs2 → StaysAt s may next begin bs k → StaysAt s may2 next2 begin2 bs2 k
stays_with s {may} {may2} {next} {next2} {begin} {begin2} {bs} {bs2} k e f g h a =
    subst (λ z. StaysAt s may2 next2 begin2 z k) h (subst (λ z. StaysAt s may2 next2 z bs k) g (subst (λ z. StaysAt s may2 z begin bs k) f (subst (λ z. StaysAt s z next begin bs k) e a)))

module _ (t u : List ℕ) (s : Style) {g : Columns} (c : Source) where
  pub stay_found : {xs ys : List Row} {bs now os : List OpenBlock} {may may2 : Bool} {cs : List CommentValue} (e : Ending) → Chained t s.indent bs xs now → InSteps s.indent now → AllAtColumns u ys → shapes xs ≡ shapes ys → os ≡ all_printed bs → may ≡ may2
      → Each (WalkFrom t s g bs may xs) cs → AllStay u s os may2 ys (gap_of g e cs xs) (decos_of g c cs xs)
  stay_found {bs = bs} {os = os} {may = may} {may2 = may2} e chain_over i none_at_columns same opened m w =
      stays_end (remarks_hold g 0 e (each_map (λ d j v.
      subst (λ z. StaysAt s may2 0 begins_document os z) (sym (v.is 0))
      (stays_with s {next = 0} {next2 = 0} {begin = begins_document} {begin2 = begins_document} (columns_if (keeps_blocks s) (comment_column s.indent may 0 (own_column t d.offset) begins_document bs) 0) m refl refl (sym opened) (settled s may 0 (own_column t d.offset) begins_document bs (keeps_blocks s) i (next_document refl)))) w))
  stay_found e chain_over i (row_at_columns a more) same opened m w = absurd cc
  stay_found e (chain_row j n r chain) i none_at_columns same opened m w = absurd cc
  stay_found {bs = bs} {os = os} {may = may} {may2 = may2} {cs = cs} e (chain_row {x = x} {xs = xs} j n r chain) i (row_at_columns {x = y} {xs = ys} a more) same opened m w =
      let one : shape_of x ≡ shape_of y = ap (first_shape (shape_of x)) same in
      let rest : shapes xs ≡ shapes ys = ap other_shapes same in
      let column : x.column ≡ y.column = ap (λ (z : RowShape). z.column) one in
      let starts : kinds x.starts ≡ kinds y.starts = ap (λ (z : RowShape). z.starts) one in
      let leaves : length x.leaves ≡ length y.leaves = ap (λ (z : RowShape). z.leaves) one in
      let begins : begin_printed (beginning t x.starts x.leaves) ≡ beginning u y.starts y.leaves = sym (beginning_found t u x.starts y.starts x.leaves y.leaves a starts leaves) in
      let here : GapHolds (StaysAt s may2 y.column (beginning u y.starts y.leaves) os) (gap_of g e cs (x ∷ xs)) =
      gap_holds g e cs x xs (each_map (λ d k v.
      subst (λ z. StaysAt s may2 y.column (beginning u y.starts y.leaves) os z) (sym (v.is x.column))
      (stays_with s (columns_if (keeps_blocks s) (column_above t s bs may x d) x.column) m column begins (sym opened) (above_settled t s may x d bs (keeps_blocks s) j n))) (above_walk w)) in
      stays_row here
      (stay_found x.ending chain i more rest (ap (after_row u y) opened ∙ after_found t u x y bs a starts leaves) (ap (λ (z : RowShape). is_bodyless z.body) one) (left_walk w))

-- In the trees found for a formatted text, each entry is at its column.

module _ (u : List ℕ) where
  starts_append : (xs ys : List Start) → AtColumns u xs → AtColumns u ys → AtColumns u (xs ++ ys)
  starts_append [] ys a b = b
  starts_append (x ∷ xs) ys a b = (a.0, starts_append xs ys a.1 b)

  at_append : {xs ys : List Row} → AllAtColumns u xs → AllAtColumns u ys → AllAtColumns u (xs ++ ys)
  at_append none_at_columns b = b
  at_append (row_at_columns a more) b = row_at_columns a (at_append more b)

  joined_at : (head : Row) (n : ℕ) {rs : List Row} → AtColumns u head.starts → AllAtColumns u rs → AllAtColumns u (joined head n rs)
  joined_at head n a none_at_columns = row_at_columns a none_at_columns
  joined_at head n a (row_at_columns {x = x} b more) = row_at_columns (starts_append head.starts x.starts a b) more

  after_key_at : (head : Row) (o : Option CommentValue) (below : Bool) {rs : List Row} → AtColumns u head.starts → AllAtColumns u rs → AllAtColumns u (after_key head o below rs)
  after_key_at head (Some c) below a b = row_at_columns a b
  after_key_at head None true a b = row_at_columns a b
  after_key_at head None false a b = joined_at head 1 a b

  line_at : (column : ℕ) (x : Node) (text : List ℕ) → AllAtColumns u (one_line_row column x text)
  line_at column x [] = none_at_columns
  line_at column x (b ∷ text) = row_at_columns tt none_at_columns

  props_at : (column : ℕ) (text : List ℕ) {rs : List Row} → AllAtColumns u rs → AllAtColumns u (props_row column text ++ rs)
  props_at column [] a = a
  props_at column (b ∷ text) a = row_at_columns tt a

  entry_source : {m : ℕ} {x : Node} → EntryOn u m x → source_column u (entry_start x) ≡ Some m
  entry_source {x = x} o = ap (λ z. source_column u (starts_of_entry z)) o.is ∙ o.column.source

  module _ (c : LayoutSetting) where
    abbrev Set : ℕ → ℕ → Node → Type 0
    Set m l x = SetNode u c.style (BlockAt u) m l x

    -- whatever its margins
    record NodeAt (x : Node) : Type 0 where
      at : (margins : Margins) (l : ℕ) → Set margins.entries l x → AllAtColumns u (rows c margins x)

    pair_at : (column : ℕ) (k v : Node) → EntryOn u column k → NodeAt k → NodeAt v → Set (column + c.style.indent) (column + c.style.indent) k → Set (entries_after c.style column k v) (column + c.style.indent) v
        → AllAtColumns u (pair_rows c column k v (rows c (key_margins c.style column k) k) (rows c (value_margins c column k v) v))
    pair_at column k v o f g a b = go (is_implicit c.style column k) b where
      go : (p : Bool) → Set (if p then value_entries c.style column v else column + c.style.indent) (column + c.style.indent) v → AllAtColumns u (either_pair p c column k v)
      go true d = after_key_at (key_row c.style column k) (key_comment c.comments k v) (begins_below v) (entry_source o, tt) (g.at (value_of_implicit c column k v) (column + c.style.indent) d)
      go false d =
          at_append (joined_at (entry_row column (63 ∷ []) k) (c.style.indent - 1) (entry_source o, tt) (f.at (key_margins c.style column k) (column + c.style.indent) a))
          (joined_at (colon_row column k) (c.style.indent - 1) (entry_source o, tt) (g.at (inner_margins c.style column) (column + c.style.indent) d))

    items_of : {m l : ℕ} {at : NodeOffsets} {props : PropsValue} {xs : Items} → Set m l (sequence at false props xs) → SetItems u c.style (BlockAt u) m xs
    items_of (set_line b) = absurd (true≢false (sym b.0))
    items_of (set_sequence o a) = a

    pairs_of : {m l : ℕ} {at : NodeOffsets} {props : PropsValue} {ps : Pairs} → Set m l (mapping at false props ps) → SetPairs u c.style (BlockAt u) m ps
    pairs_of (set_line b) = absurd (true≢false (sym b.0))
    pairs_of (set_mapping o a) = a

    mutual
      node_at : (x : Node) → NodeAt x
      node_at (scalar at props Plain text lines) = record { at = λ margins l a. line_at margins.column (scalar at props Plain text lines) (written c.style (scalar at props Plain text lines)) }
      node_at (scalar at props Single text lines) = record { at = λ margins l a. line_at margins.column (scalar at props Single text lines) (written c.style (scalar at props Single text lines)) }
      node_at (scalar at props Double text lines) = record { at = λ margins l a. line_at margins.column (scalar at props Double text lines) (written c.style (scalar at props Double text lines)) }
      node_at (scalar at props Literal text lines) = record { at = λ margins l a. row_at_columns tt none_at_columns }
      node_at (scalar at props Folded text lines) = record { at = λ margins l a. row_at_columns tt none_at_columns }
      node_at (alias at name) = record { at = λ margins l a. line_at margins.column (alias at name) (written c.style (alias at name)) }
      node_at (sequence at true props xs) = record { at = λ margins l a. line_at margins.column (sequence at true props xs) (written c.style (sequence at true props xs)) }
      node_at (sequence at false props xs) = record { at = λ margins l a. props_at margins.column (props_text props) (items_at margins.entries xs (items_of a)) }
      node_at (mapping at true props ps) = record { at = λ margins l a. line_at margins.column (mapping at true props ps) (written c.style (mapping at true props ps)) }
      node_at (mapping at false props ps) = record { at = λ margins l a. props_at margins.column (props_text props) (pairs_at margins.entries ps (pairs_of a)) }

      items_at : (column : ℕ) (xs : Items) → SetItems u c.style (BlockAt u) column xs → AllAtColumns u (rows_of_items c column xs)
      items_at column no_items a = none_at_columns
      items_at column (item x xs) (set_item o a more) =
          at_append (joined_at (entry_row column (45 ∷ []) x) (c.style.indent - 1) (entry_source o, tt) ((node_at x).at (inner_margins c.style column) (column + c.style.indent) a)) (items_at column xs more)

      pairs_at : (column : ℕ) (ps : Pairs) → SetPairs u c.style (BlockAt u) column ps → AllAtColumns u (rows_of_pairs c column ps)
      pairs_at column no_pairs a = none_at_columns
      pairs_at column (pair k v ps) (set_pair o free marked a b more) = at_append (pair_at column k v o (node_at k) (node_at v) a b) (pairs_at column ps more)

    directives_at : (dirs : List Directive) → AllAtColumns u (map directive_row dirs ++ (start_row ∷ []))
    directives_at [] = row_at_columns tt none_at_columns
    directives_at (d ∷ ds) = row_at_columns tt (directives_at ds)

    heads_at : (is_first : Bool) (start : ℕ) (dirs : List Directive) → AllAtColumns u (beginning_at start (end_rows is_first dirs ++ (map directive_row dirs ++ (start_row ∷ []))))
    heads_at true start [] = row_at_columns tt none_at_columns
    heads_at true start (d ∷ ds) = row_at_columns tt (directives_at ds)
    heads_at false start [] = row_at_columns tt none_at_columns
    heads_at false start (d ∷ ds) = row_at_columns tt (directives_at (d ∷ ds))

    stream_at : (is_first : Bool) (ds : List Doc) (trees : List DocumentTree) → SetDocuments u c.style (BlockAt u) trees → AllAtColumns u (stream_rows c is_first ds trees)
    stream_at is_first [] trees a = none_at_columns
    stream_at is_first (d ∷ ds) [] a = none_at_columns
    stream_at is_first (d ∷ ds) (x ∷ xs) (set_document a more) =
        at_append (at_append (heads_at is_first d.start d.directives) ((node_at x.root).at (root_margins c.style) c.style.indent a)) (stream_at false ds xs more)

    begun_at_columns : (start : ℕ) {xs : List Row} → AllAtColumns u xs → AllAtColumns u (begun_at start xs)
    begun_at_columns start none_at_columns = none_at_columns
    begun_at_columns start (row_at_columns a more) = row_at_columns a more

    pub all_at : (bare : Bool) (ds : List Doc) (trees : List DocumentTree) → SetDocuments u c.style (BlockAt u) trees → AllAtColumns u (all_rows c bare ds trees)
    all_at false ds trees a = stream_at true ds trees a
    all_at true [] trees a = none_at_columns
    all_at true (d ∷ ds) [] a = none_at_columns
    all_at true (d ∷ ds) (x ∷ xs) (set_document a more) = at_append (begun_at_columns d.start ((node_at x.root).at (root_margins c.style) c.style.indent a)) (stream_at false ds xs more)

-- The law.

pub formatted_stay : {t u : List ℕ} {s : Style} (q : Lists) → IsUtf8 t → (f : IsFormatting t s u) → (a : ReadingOf u q) → FoundReading f q a
    → AllStay u s [] true (rows_of q s a.trees) (first_gap (columns_in f) f.normal (rows_of f.normal s f.writes.trees)) (row_decos (columns_in f) f.normal (rows_of f.normal s f.writes.trees))
formatted_stay {t} {u} {s} q utf8 f a w =
    let m : Lists = f.normal in
    let xs : List Row = rows_of m s f.writes.trees in
    let chain = layout_chain t m s f.writes.trees (formats_fit utf8 f) in
    let set = reading_set utf8 f a in
    let there : SetDocuments u s (BlockAt u) a.trees = subst (λ z. SetDocuments u s (BlockAt u) z) (trees_unique q set.trees a.trees set.of_reading a.of_reading) set.set in
    stay_found t u s (source_of m xs) at_text_start chain.rows chain.steps (all_at u (setting_of q s) (is_bare q s) q.documents a.trees there) (found_rows (is_bare m s) (is_bare q s) w.bare w.alike) refl refl
    (every (λ d. record { is = λ next. refl }) (own_line_comments (source_of m xs) xs))
