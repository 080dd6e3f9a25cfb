-- Implicit keys with their values: the value on the same line, on the next lines, or missing.
use Rattle.std.proofs.Common.{◌≡◌, ℕ, max, ◌+◌, ◌≤◌, pos, Bool, true, false, List, [], ◌∷◌, ◌++◌, length, Option, Some, None, refl, sym, ap, ◌∙◌, subst, arith, append_assoc, append-nil, true≢false}
use Rattle.std.specs.Prelude.{not, is_some}
use Rattle.std.specs.Str.{IsUtf8, chars}
use Rattle.yf_chars.specs.declared.context.Ctx.TheVariants.{BlockOut}
use Rattle.yf_chars.specs.Text.{code}
use Rattle.yf_lines.specs.Basic.{LineStart}
use Rattle.yf_lines.proofs.RestLemmas.{Rest, line_nothing, rest_spaces}
use Rattle.yf_comments.specs.Comment.{CommentValue}
use Rattle.yf_comments.proofs.GapLinesLemmas.{texts}
use Rattle.yf_comments.proofs.SpaceLemmas.{space_in_line}
use Rattle.yf_events.specs.Tree.{Node, items_in, leaves as leaves_of}
use Rattle.yf_grammar.specs.Productions.Grammar.{Derives, BlockValue}
use Rattle.yf_grammar.specs.Productions.Grammar.Derives.{a_keyed_entry, an_unkeyed_entry, a_block_value, an_empty_block_value}
use Rattle.yf_grammar.specs.Productions.Meaning.{Meaning, ◌⊕◌, meaning_after, noting, empty_node, entering}
use Rattle.yf_grammar.specs.Productions.TreesOfMeaning.{tall}
use Rattle.yf_grammar.proofs.Ends.BlankRuns.{ContentBefore, after_byte}
use Rattle.yf_grammar.proofs.BlockOutcomes.BlockFirst.{key_no_question}
use Rattle.yf_grammar.proofs.Documents.CommentOrder.{end_ascends}
use Rattle.yf_grammar.proofs.NodesInText.MeantLemmas.{texts_after, texts_noting, texts_entering, texts_both, texts_empty, after_comments}
use Rattle.yf_grammar.proofs.NodesInText.NodePlaces.{NodeIsAt, is_at_nowhere, node_order, node_upto}
use Rattle.yf_grammar.proofs.NodesInText.PlacesDerived.{places}
use Rattle.yf_laws.specs.Layouts.WrittenQuotes.{QuotesWritten, no_quotes, one_quote}
use Rattle.yf_laws.specs.Layouts.RowComments.{AreDecos, carried_texts, comments_in, Calm}
use Rattle.yf_laws.specs.Layouts.Decorated.{Deco, first, after, end_then, lines_then, inline_then}
use Rattle.yf_laws.specs.Layouts.ReadableTrees.{KeyNode}
use Rattle.yf_forms.specs.NormalForms.Normal.{LayoutSetting, Margins, is_implicit, key_comment, value_entries, value_of_implicit}
use Rattle.yf_forms.specs.Nodes.OneLine.{width, written, colon_after}
use Rattle.yf_print.specs.Layouts.Rows.{Row, Ending, anywhere, before_node, after_key, begins_below, joined, start_of}
use Rattle.yf_events.specs.declared.event.Span.{Span}
use Rattle.yf_laws.proofs.Derived.LayoutSteps.{Step, leaf_steps, comment_steps, steps_in}
use Rattle.yf_laws.proofs.Derived.EntriesMade.{Begins, begins, EntryMade, EntryMakes, comments_both, comments_entering}
use Rattle.yf_laws.proofs.Columns.FlowEvents.{empty_flow, flow_means}
use Rattle.yf_laws.proofs.Columns.FlowHeads.{bracketed}
use Rattle.yf_laws.proofs.RowNodes.FoundLines.{items_inside, leaves_inside, leaves_end, node_text, placed_node}
use Rattle.yf_laws.proofs.RowNodes.FoundNodes.{FoundNode, FoundPair, HeadAt, head_at, KeyRows, key_commented, key_above, key_alone, key_joined, bare_node, bare_alike, bare_events, bare_escapes, found_after, found_noting, found_nothing, found_implicit, meant_of}
use Rattle.yf_laws.proofs.OutputLines.HeldLemmas.{Held, empty_silent, entering_silent, held_after, held_next, held_joined, held_line, row_ended}
use Rattle.yf_laws.proofs.Derived.KeyTexts.{colon_line, key_made, key_node, over_key, value_right}
use Rattle.yf_laws.proofs.Derived.LaidRows.{leaves_apart, laid_row, laid_line}
use Rattle.yf_laws.proofs.Columns.LinePlaces.{OnLine, bare_width, on_same, on_sign}
use Rattle.yf_laws.proofs.Derived.NodePlaces.{beside_at, below_at}
use Rattle.yf_laws.proofs.Derived.NodesMade.{Stood, Claim, no_row, some_rows, MeansNothing, noting_nothing}
use Rattle.yf_laws.proofs.RowNodes.PlacedRows.{never_bare, Inside, none_inside, one_inside, inside_wider, PlacedRow, AtRow, LeavesTo, no_leaf_to, leaves_to_wider, after_line, RowsIn, last_row, row_before, joined_placed, rows_joined}
use Rattle.yf_laws.proofs.Derived.RowEnds.{row_end, first_deco, after_decos}
use Rattle.yf_laws.proofs.Columns.SetMeant.{column_start, SetDone, set_done, done_after, done_empty, set_implicit}
use Rattle.yf_laws.proofs.Columns.SetNodes.{ColumnAt}
use Rattle.yf_laws.proofs.Derived.StepsInText.{starts_of, MeaningLaid, laid_after, laid_both, laid_next, laid_empty, laid_entering}
use Rattle.yf_lines.proofs.VisibleLines.{visible_at}
use Rattle.yf_stream.proofs.Uniqueness.OneDirective.{ascii_ns}

-- the row of a key with its `:`, before its value is known
abbrev pub key_head : ℕ → List ℕ → List ℕ → List ℕ → List Span → Bool → Row
key_head column text offsets items leaves blank =
    record { column = column; text = text; starts = start_of column false offsets ∷ []; items = items; leaves = leaves; key_comment = None; blank_before = blank; begins = false; ending = anywhere; body = []; lines = 0 }

-- the bytes after the `:`
abbrev after_then : Option CommentValue → Bool → List Row → List Deco → List ℕ → List ℕ
after_then (Some c) below rs ds r = end_then (first ds) [] (lines_then rs (after ds) r)
after_then None true rs ds r = end_then (first ds) [] (lines_then rs (after ds) r)
after_then None false [] ds r = end_then (first ds) [] r
after_then None false (x ∷ xs) ds r = 32 ∷ inline_then (x ∷ xs) ds r

after_inline : (column : ℕ) (text offsets items : List ℕ) (leaves : List Span) (blank : Bool) (o : Option CommentValue) (below : Bool) (rs : List Row) (ds : List Deco) (r : List ℕ)
    → inline_then (after_key (key_head column text offsets items leaves blank) o below rs) ds r ≡ text ++ after_then o below rs ds r
after_inline column text offsets items leaves blank (Some c) below rs ds r = refl
after_inline column text offsets items leaves blank None true rs ds r = refl
after_inline column text offsets items leaves blank None false [] ds r = refl
after_inline column text offsets items leaves blank None false (x ∷ xs) ds r = append_assoc text (32 ∷ x.text) (end_then (first ds) x.body (lines_then xs (after ds) r))

after_begins : (column : ℕ) (text offsets items : List ℕ) (leaves : List Span) (blank : Bool) (o : Option CommentValue) (below : Bool) (rs : List Row)
    → Begins column (after_key (key_head column text offsets items leaves blank) o below rs)
after_begins column text offsets items leaves blank (Some c) below rs = begins refl
after_begins column text offsets items leaves blank None true rs = begins refl
after_begins column text offsets items leaves blank None false [] = begins refl
after_begins column text offsets items leaves blank None false (x ∷ xs) = begins refl

-- the steps after the `:`
abbrev steps_after : Option CommentValue → Bool → List Row → List Deco → List Step
steps_after (Some c) below rs ds = comment_steps (carried_texts (first ds)) ++ steps_in rs (after ds)
steps_after None true rs ds = comment_steps (carried_texts (first ds)) ++ steps_in rs (after ds)
steps_after None false [] ds = comment_steps (carried_texts (first ds)) ++ []
steps_after None false (x ∷ xs) ds = steps_in (x ∷ xs) ds

after_steps : (column : ℕ) (text offsets items : List ℕ) (leaves : List Span) (blank : Bool) (o : Option CommentValue) (below : Bool) (rs : List Row) (ds : List Deco)
    → steps_in (after_key (key_head column text offsets items leaves blank) o below rs) ds ≡ leaf_steps leaves ++ steps_after o below rs ds
after_steps column text offsets items leaves blank (Some c) below rs ds = refl
after_steps column text offsets items leaves blank None true rs ds = refl
after_steps column text offsets items leaves blank None false [] ds = refl
after_steps column text offsets items leaves blank None false (x ∷ xs) ds = leaves_apart leaves x.leaves (comment_steps (carried_texts (first ds)) ++ steps_in xs (after ds))

-- the `:` at i and the value after it
record ValueMade (t : List ℕ) (s : LayoutSetting) (margins : Margins) (column : ℕ) (v : Node) (rs : List Row) (ds : List Deco) (q : ℕ) (items : List ℕ) (leaves : List Span) (b below : Bool) (i : ℕ) (r : List ℕ) (steps : List Step) : Type 0 where
  pub height : ℕ
  pub place : ℕ
  pub meaning : Meaning
  pub derived : Derives t height (BlockValue column) i place meaning
  pub low : height ≤ tall v
  pub rest : Rest t place r
  pub start : LineStart t place
  pub inner : List PlacedRow
  pub meant : FoundNode t s margins v meaning inner
  pub is : texts meaning.comments ≡ comments_in rs ds
  pub laid : MeaningLaid i place meaning steps
  pub held : Held t meaning rs ds r
  pub set : SetDone t s.style margins.entries (column + s.style.indent) meaning.events
  pub found_rows : List PlacedRow
  pub head : HeadAt column q (i + 1) found_rows
  pub keyed : KeyRows t items leaves b below inner found_rows
  pub placed : RowsIn t rs found_rows ds q meaning.comments place r

-- the row of a key that begins at q, up to its `:` at i, with the items found on it
record Head (column : ℕ) (row : Row) (q i a : ℕ) (items : List ℕ) (ls : List Span) (b : Bool) : Type 0 where
  is_there : row.column ≡ column
  width : q + length row.text ≡ i + 1
  items_stand : Inside q (i + 1) (a ∷ items)
  leaves_stand : Inside q (i + 1) (starts_of ls)
  leaves_to : LeavesTo (i + 1) ls
  commented : is_some row.key_comment ≡ b

abbrev head_row : ℕ → ℕ → ℕ → ℕ → List ℕ → List Span → Bool → PlacedRow
head_row column q i a items ls b = record { items = a ∷ items; leaves = ls; commented = b; column = column; from = q; upto = i + 1 }

head_is_at : {column : ℕ} {row : Row} {q i a : ℕ} {items : List ℕ} {ls : List Span} {b : Bool} → Head column row q i a items ls b → AtRow row q (head_row column q i a items ls b)
head_is_at h = record {
  from = refl;
  order = let w = h.width in omega (arith, w);
  size = λ z. sym h.width;
  items = h.items_stand;
  leaves = h.leaves_stand;
  commented = h.commented;
  bare = λ z. never_bare z;
  column = h.is_there;
}

-- the head of rows that are joined to a key
record Joined (t : List ℕ) (column : ℕ) (rs : List Row) (inner : List PlacedRow) (ds : List Deco) (q i : ℕ) (items : List ℕ) (leaves : List Span) (cs : List CommentValue) (place : ℕ) (r : List ℕ) : Type 0 where
  found_rows : List PlacedRow
  head : HeadAt column q (i + 1) found_rows
  keyed : KeyRows t items leaves false false inner found_rows
  placed : RowsIn t rs found_rows ds q cs place r

keyed_after : {t : List ℕ} {y : Row} {ys : List Row} {ps : List PlacedRow} {ds : List Deco} {k place : ℕ} {cs : List CommentValue} {r : List ℕ} (column : ℕ) (head : Row) (q i a : ℕ) (items : List ℕ) (ls : List Span) → Head column head q i a items ls false
    → k ≡ i + 1 + 1 → (OnLine t column q → OnLine t y.column k) → RowsIn t (y ∷ ys) ps ds k cs place r → Joined t column (joined head 1 (y ∷ ys)) ps ds q i (a ∷ items) ls cs place r
keyed_after column head q i a items ls h e on (last_row {p = p} at end w) =
    let width = h.width in
    let order = at.order in
    let from = at.from in
    record {
      found_rows = joined_placed (a ∷ items) ls head.column q p ∷ [];
      head = head_at h.is_there refl (omega (arith, e, order));
      keyed = key_joined refl refl refl (omega (arith, e, from, width)) refl (λ z. on_same at.column (sym at.from) (on (on_same h.is_there refl z)));
      placed = rows_joined head 1 q a items ls (omega (arith, e, width)) (inside_wider (omega arith) (omega (arith, e)) h.items_stand) (inside_wider (omega arith) (omega (arith, e)) h.leaves_stand) (leaves_to_wider (omega (arith, e)) h.leaves_to)
          (last_row at end w);
    }
keyed_after column head q i a items ls h e on (row_before {p = p} {ps = ps} at end w more) =
    let width = h.width in
    let order = at.order in
    let from = at.from in
    record {
      found_rows = joined_placed (a ∷ items) ls head.column q p ∷ ps;
      head = head_at h.is_there refl (omega (arith, e, order));
      keyed = key_joined refl refl refl (omega (arith, e, from, width)) refl (λ z. on_same at.column (sym at.from) (on (on_same h.is_there refl z)));
      placed = rows_joined head 1 q a items ls (omega (arith, e, width)) (inside_wider (omega arith) (omega (arith, e)) h.items_stand) (inside_wider (omega arith) (omega (arith, e)) h.leaves_stand) (leaves_to_wider (omega (arith, e)) h.leaves_to)
          (row_before at end w more);
    }

-- the `:` before it
colon_seen : {t : List ℕ} (i : ℕ) → IsUtf8 t → code t i ≡ 58 → ContentBefore t (i + 1)
colon_seen i u e = after_byte i u e (omega arith) (ascii_ns 58 (omega arith) (omega arith))

-- no value
value_missing : {t : List ℕ} {v : Node} {q a : ℕ} {items : List ℕ} {ls : List Span} {b below : Bool} (s : LayoutSetting) (margins : Margins) (column : ℕ) (row : Row) (ds : List Deco) (r : List ℕ) {i : ℕ} → row.body ≡ [] → Head column row q i a items ls b
    → ((h : PlacedRow) → h.items ≡ a ∷ items → h.leaves ≡ ls → h.commented ≡ b → KeyRows t (a ∷ items) ls b below [] (h ∷ [])) → MeansNothing v → code t i ≡ 58 → IsUtf8 t → AreDecos ds
    → Rest t (i + 1) (end_then (first ds) [] r) → ValueMade t s margins column v (row ∷ []) ds q (a ∷ items) ls b below i r (comment_steps (carried_texts (first ds)) ++ [])
value_missing {t} {q = q} {a = h} {items = items} {ls = ls} {b = b} s margins column row ds r {i} bare head keyed m colon u a w =
    let end = row_end (first ds) r u (first_deco a) w in
    record {
      height = 0;
      place = end.place;
      meaning = noting (empty_node (i + 1)) end.comments;
      derived = an_empty_block_value colon end.end;
      low = omega arith;
      rest = end.rest;
      start = end.start;
      inner = [];
      meant = found_noting end.comments (found_nothing (i + 1) (m.meant (i + 1)));
      found_rows = head_row column q i h items ls b ∷ [];
      head = head_at refl refl (omega arith);
      keyed = keyed (head_row column q i h items ls b) refl refl refl;
      placed = subst (λ v. RowsIn t (row ∷ []) (head_row column q i h items ls b ∷ []) ds q v end.place r) (sym (noting_nothing (i + 1) end.comments))
          (last_row (head_is_at head) (record { ascend = end_ascends end.end; is = end.is; start = end.start; tail = after_line bare end.end head.leaves_to }) end.rest);
      is = texts_noting (empty_node (i + 1)) end.comments ∙ (ap (λ z. z ++ texts end.comments) (texts_empty (i + 1)) ∙ (end.is ∙ sym (append-nil (carried_texts (first ds)))));
      laid = laid_row (empty_node (i + 1)) end.comments [] (laid_empty (i + 1) (omega arith)) (end_ascends end.end) end.is;
      set = done_empty (i + 1) end.comments;
      held = held_line (empty_node (i + 1)) end.comments row ds r bare (empty_silent (i + 1)) (row_ended (first ds) r u (colon_seen i u colon) (first_deco a) w end.end);
    }

-- a value on lines of its own
value_below : {t : List ℕ} {s : LayoutSetting} {v : Node} {margins : Margins} {rs : List Row} {q a : ℕ} {items : List ℕ} {ls : List Span} {b below : Bool} (column : ℕ) (row : Row) (ds : List Deco) (r : List ℕ) {i : ℕ} → row.body ≡ [] → Head column row q i a items ls b
    → ((ps : List PlacedRow) (h : PlacedRow) → h.items ≡ a ∷ items → h.leaves ≡ ls → h.commented ≡ b → KeyRows t (a ∷ items) ls b below ps (h ∷ ps)) → Claim s v margins rs
    → (begins_below v ≡ false → column + 1 ≤ margins.column) → code t i ≡ 58 → IsUtf8 t → Stood s v (pos column) BlockOut margins → AreDecos ds → Calm rs (after ds) r
    → Rest t (i + 1) (end_then (first ds) [] (lines_then rs (after ds) r))
    → ValueMade t s margins column v (row ∷ rs) ds q (a ∷ items) ls b below i r (comment_steps (carried_texts (first ds)) ++ steps_in rs (after ds))
value_below {s = s} {margins = margins} column row ds r bare head keyed (no_row m) deep colon u stood a k w = value_missing s margins column row ds r bare head (λ h. keyed [] h) m colon u a w
value_below {t} {s} {v} {margins} {q = q} {a = h} {items = items} {ls = ls} {b = b} column row ds r {i} bare head keyed (some_rows {r = y} {rs = ys} f g m) deep colon u stood a k w =
    let end = row_end (first ds) (lines_then (y ∷ ys) (after ds) r) u (first_deco a) w in
    let there = rest_spaces y.column end.place u end.rest in
    let node = m.made (pos column) BlockOut (after ds) r (end.place + y.column) u stood (after_decos a) k there.1 in
    record {
      height = node.height;
      place = node.place;
      meaning = meaning_after end.comments node.meaning;
      derived = a_block_value colon (below_at (column + 1) refl refl (λ e. let h : y.column ≡ margins.column = f (turned e) in let d : column + 1 ≤ margins.column = deep (turned e) in omega (arith, h, d))
          (λ e. g (turned_back e)) end.end end.start there.0 node.at);
      low = node.low;
      rest = node.rest;
      start = node.start;
      inner = node.found_rows;
      meant = found_after end.comments node.meant;
      found_rows = head_row column q i h items ls b ∷ node.found_rows;
      head = head_at refl refl (omega arith);
      keyed = keyed node.found_rows (head_row column q i h items ls b) refl refl refl;
      placed = subst (λ z. RowsIn t (row ∷ y ∷ ys) (head_row column q i h items ls b ∷ node.found_rows) ds q z node.place r) (sym (after_comments end.comments node.meaning))
          (row_before (head_is_at head) (record { ascend = end_ascends end.end; is = end.is; start = end.start; tail = after_line bare end.end head.leaves_to }) end.rest node.placed);
      is = texts_after end.comments node.meaning ∙ (ap (λ z. z ++ texts node.meaning.comments) end.is ∙ ap (λ z. carried_texts (first ds) ++ z) node.is);
      laid = laid_after (omega arith) (laid_next end.comments node.meaning (end_ascends end.end) end.is (omega arith) node.laid);
      set = done_after end.comments node.meaning (set_done (λ b. subst (λ z. ColumnAt t z (end.place + y.column)) (g b) (column_start u end.start there.0)) node.set);
      held = held_next end.comments node.meaning row (y ∷ ys) ds r bare (row_ended (first ds) (lines_then (y ∷ ys) (after ds) r) u (colon_seen i u colon) (first_deco a) w end.end) node.held;
    }
  where
    turn : (b : Bool) → not b ≡ true → b ≡ false
    turn false e = refl
    turn true e = sym e

    turned : not (begins_below v) ≡ true → begins_below v ≡ false
    turned e = turn (begins_below v) e

    turn_back : (b : Bool) → not b ≡ false → b ≡ true
    turn_back true e = refl
    turn_back false e = sym e

    turned_back : not (begins_below v) ≡ false → begins_below v ≡ true
    turned_back e = turn_back (begins_below v) e

-- whatever trails the key
record AnyHead (column : ℕ) (text items : List ℕ) (leaves : List Span) (blank : Bool) (q i a : ℕ) (found : List ℕ) (ls : List Span) : Type 0 where
  width : q + length text ≡ i + 1
  items_stand : Inside q (i + 1) (a ∷ found)
  leaves_stand : Inside q (i + 1) (starts_of ls)
  leaves_to : LeavesTo (i + 1) ls

head_of : {column q i a : ℕ} {text offsets items found : List ℕ} {leaves ls : List Span} {blank : Bool} {ending : Ending} (o : Option CommentValue) → AnyHead column text items leaves blank q i a found ls
    → Head column (record (key_head column text offsets items leaves blank) { key_comment = o; ending = ending }) q i a found ls (is_some o)
head_of o h = record { is_there = refl; width = h.width; items_stand = h.items_stand; leaves_stand = h.leaves_stand; leaves_to = h.leaves_to; commented = refl }

value_made : {t : List ℕ} {s : LayoutSetting} {v : Node} {margins : Margins} {rs : List Row} {q a : ℕ} {found : List ℕ} {ls : List Span} (column : ℕ) (text offsets items : List ℕ) (leaves : List Span) (blank : Bool) (o : Option CommentValue) (below : Bool)
    (ds : List Deco) (r : List ℕ) (i wide : ℕ) → AnyHead column text items leaves blank q i a found ls → (OnLine t column q → OnLine t (column + wide) (i + 1))
    → (is_some o ≡ false → margins.column ≡ column + wide + 1) → Claim s v margins rs → below ≡ begins_below v → (is_some o ≡ true → begins_below v ≡ false → column + 1 ≤ margins.column)
    → code t i ≡ 58 → IsUtf8 t → Stood s v (pos column) BlockOut margins → AreDecos ds → Calm (after_key (key_head column text offsets items leaves blank) o below rs) ds r
    → Rest t (i + 1) (after_then o below rs ds r)
    → ValueMade t s margins column v (after_key (key_head column text offsets items leaves blank) o below rs) ds q (a ∷ found) ls (is_some o) below i r (steps_after o below rs ds)
value_made {q = q} {a = a} {found = found} {ls = ls} column text offsets items leaves blank (Some c) below ds r i wide head over right v e deep colon u stood k calm w =
    value_below column (record (key_head column text offsets items leaves blank) { key_comment = Some c; ending = before_node }) ds r refl (head_of (Some c) head) (λ ps h x y z. key_commented x y z) v (deep refl) colon u stood k calm.1 w
value_made {v = v} {margins = margins} column text offsets items leaves blank None true ds r i wide head over right k e deep colon u stood a calm w =
    value_below column (record (key_head column text offsets items leaves blank) { key_comment = None; ending = before_node }) ds r refl (head_of None head) (λ ps h x y z. key_above x y z) k (λ f. absurd (true≢false (e ∙ f))) colon u stood a calm.1 w
value_made {s = s} {margins = margins} column text offsets items leaves blank None false ds r i wide head over right (no_row m) e deep colon u stood a calm w =
    value_missing s margins column (key_head column text offsets items leaves blank) ds r refl (head_of {ending = anywhere} None head) (λ h x y z. key_alone x y z) m colon u a w
value_made {t} {s} {v} {margins} {q = q} {a = h} {found = found} {ls = ls} column text offsets items leaves blank None false ds r i wide head over right (some_rows {r = y} {rs = ys} f g m) e deep colon u stood a calm w =
    let space = visible_at 32 u (omega arith) (omega arith) w in
    let node = m.made (pos column) BlockOut ds r (i + 1 + 1) u stood a calm space.1 in
    let is_there : y.column ≡ column + wide + 1 = f (sym e) ∙ right refl in
    let joint = keyed_after column (key_head column text offsets items leaves blank) q i h found ls (head_of {ending = anywhere} None head) refl
    (λ z. on_same (sym is_there) refl (on_sign 32 (inline_then (y ∷ ys) ds r) u (omega arith) (omega arith) (over z) w)) node.placed in
    record {
      height = node.height;
      place = node.place;
      meaning = node.meaning;
      derived = a_block_value colon (beside_at (ap not (sym e)) (space_in_line (i + 1) space.0) node.at);
      low = node.low;
      rest = node.rest;
      start = node.start;
      inner = node.found_rows;
      meant = node.meant;
      found_rows = joint.found_rows;
      head = joint.head;
      keyed = joint.keyed;
      placed = joint.placed;
      is = node.is;
      laid = laid_after (omega arith) node.laid;
      set = set_done (λ b. absurd (true≢false (sym b ∙ sym e))) node.set;
      held = held_joined (key_head column text offsets items leaves blank) 1 y ys ds r node.held;
    }

-- A pair with an implicit key.

module _ {s : LayoutSetting} {k v : Node} {margins : Margins} {rs : List Row} (column : ℕ) (offsets items : List ℕ) (leaves : List Span) (blank : Bool) (o : Option CommentValue) (below : Bool)
    (value : Claim s v margins rs) (same : below ≡ begins_below v) (deep : is_some o ≡ true → begins_below v ≡ false → column + 1 ≤ margins.column) (stood : Stood s v (pos column) BlockOut margins)
    (are_margins : margins ≡ value_of_implicit s column k v) (implicit : is_implicit s.style column k ≡ true) (flag : is_some o ≡ is_some (key_comment s.comments k v)) where
  pub keyed_makes : KeyNode s.style k → length leaves ≡ length (leaves_of k) → length (chars (written s.style k)) ≤ 1023
      → EntryMakes s false column (max (tall k) (tall v)) (λ t m ps. FoundPair t s column k v m ps) (after_key (key_head column (written s.style k ++ colon_after k) offsets items leaves blank) o below rs)
  keyed_makes n count l = record { starts = after_begins column (written s.style k ++ colon_after k) offsets items leaves blank o below rs; made = made } where
    made : {t : List ℕ} (ds : List Deco) (r : List ℕ) (q : ℕ) → IsUtf8 t → AreDecos ds → Calm (after_key (key_head column (written s.style k ++ colon_after k) offsets items leaves blank) o below rs) ds r
        → Rest t q (inline_then (after_key (key_head column (written s.style k ++ colon_after k) offsets items leaves blank) o below rs) ds r)
        → EntryMade s false column (max (tall k) (tall v)) (λ t m ps. FoundPair t s column k v m ps) t (after_key (key_head column (written s.style k ++ colon_after k) offsets items leaves blank) o below rs) ds q r
    made {t} ds r q u a calm w =
        let shaped : Rest t q (written s.style k ++ (colon_after k ++ after_then o below rs ds r)) =
        subst (λ z. Rest t q z) (after_inline column (written s.style k ++ colon_after k) offsets items leaves blank o below rs ds r ∙ append_assoc (written s.style k) (colon_after k) (after_then o below rs ds r)) w in
        let key = key_made s.style q (after_then o below rs ds r) (colon_after k) n.node n.colon l u shaped in
        let at = places u key.derived refl in
        let found = at.node in
        let is_there : NodeIsAt t q (key.place + 1) found = node_upto at.is_there (let e = at.ends in omega (arith, e)) in
        let order : q ≤ key.place + 1 = node_order is_there in
        let head : AnyHead column (written s.style k ++ colon_after k) items leaves blank q key.place q (items_in found) (leaves_of found) =
        record { width = key.width; items_stand = one_inside (omega arith) order (items_inside is_there); leaves_stand = leaves_inside is_there; leaves_to = leaves_end is_there } in
        let alike = placed_node at (n.node.meant q) in
        let line = n.node.back.line in
        let derived = key_node s.style q (after_then o below rs ds r) (colon_after k) n.node n.colon u shaped in
        let one = value_made column (written s.style k ++ colon_after k) offsets items leaves blank o below ds r key.place (width (written s.style k) + width (colon_after k)) head
        (λ b. over_key key.place (written s.style k) (colon_after k) (after_then o below rs ds r) u line (colon_line n.colon) shaped key.width b) (λ e. value_right s margins column k v (is_some o) are_margins flag e) value same deep key.colon u stood a calm key.rest in
        let value_set : SetDone t s.style (value_entries s.style column v) (column + s.style.indent) one.meaning.events = subst (λ z. SetDone t s.style z (column + s.style.indent) one.meaning.events) (ap (λ z. z.entries) are_margins) one.set in
        let low : n.node.height ≤ tall k = n.node.low in
        let high : one.height ≤ tall v = one.low in
        record {
          height = max n.node.height one.height;
          place = one.place;
          meaning = entering q (Some key.place) (n.node.mean q) ⊕ one.meaning;
          derived = a_keyed_entry key.derived one.derived;
          low = omega (arith, low, high);
          rest = one.rest;
          start = one.start;
          found_rows = one.found_rows;
          meant = found_implicit (n.node.mean q) q key.place found (is_some o) flag implicit alike at.events (n.node.meant q).escapes (node_upto at.is_there at.ends)
              (node_text s.style (colon_after k ++ after_then o below rs ds r) alike line shaped (λ f. bracketed found u derived at.events f)
              (subst (λ es. QuotesWritten s.style t es) at.events (n.node.quoted t q (colon_after k ++ after_then o below rs ds r) u shaped))) one.head
              (subst (λ z. FoundNode t s z v one.meaning one.inner) are_margins one.meant) (subst (λ z. KeyRows t (q ∷ items_in found) (leaves_of found) (is_some o) z one.inner one.found_rows) same one.keyed);
          placed = subst (λ z. RowsIn t (after_key (key_head column (written s.style k ++ colon_after k) offsets items leaves blank) o below rs) one.found_rows ds q z one.place r)
              (sym (comments_both (entering q (Some key.place) (n.node.mean q)) one.meaning
              ∙ ap (λ z. z ++ one.meaning.comments) (comments_entering q (Some key.place) (n.node.mean q) ∙ n.node.silent q))) one.placed;
          is = texts_both (entering q (Some key.place) (n.node.mean q)) one.meaning
              ∙ (ap (λ z. z ++ texts one.meaning.comments) (texts_entering q (Some key.place) (n.node.mean q) ∙ ap (λ z. texts z) (n.node.silent q)) ∙ one.is);
          laid = subst (λ z. MeaningLaid q one.place (entering q (Some key.place) (n.node.mean q) ⊕ one.meaning) z) (sym (after_steps column (written s.style k ++ colon_after k) offsets items leaves blank o below rs ds))
              (laid_both (entering q (Some key.place) (n.node.mean q)) one.meaning
              (laid_entering q (Some key.place) (n.node.mean q) (laid_line leaves (places u key.derived refl) (n.node.meant q) (n.node.silent q) count)) one.laid (omega arith));
          set = set_implicit column q key.place (n.node.mean q) one.meaning found alike implicit (flow_means key.derived tt) at.events
              (λ f g. key_no_question key.derived (record { sign_is_at = f; follows = g })) (meant_of one.meant) value_set;
          held = held_after (entering q (Some key.place) (n.node.mean q)) one.meaning (after_key (key_head column (written s.style k ++ colon_after k) offsets items leaves blank) o below rs) ds r
              (entering_silent q (Some key.place) (n.node.mean q) (n.node.silent q)) one.held;
        }

  -- the key is an empty node
  pub unkeyed_makes : MeansNothing k → written s.style k ≡ [] → colon_after k ≡ 58 ∷ [] → leaves ≡ [] → EntryMakes s false column (max (tall k) (tall v)) (λ t m ps. FoundPair t s column k v m ps) (after_key (key_head column (58 ∷ []) offsets items leaves blank) o below rs)
  unkeyed_makes n said colon_is none = record { starts = after_begins column (58 ∷ []) offsets items leaves blank o below rs; made = made } where
    made : {t : List ℕ} (ds : List Deco) (r : List ℕ) (q : ℕ) → IsUtf8 t → AreDecos ds → Calm (after_key (key_head column (58 ∷ []) offsets items leaves blank) o below rs) ds r
        → Rest t q (inline_then (after_key (key_head column (58 ∷ []) offsets items leaves blank) o below rs) ds r)
        → EntryMade s false column (max (tall k) (tall v)) (λ t m ps. FoundPair t s column k v m ps) t (after_key (key_head column (58 ∷ []) offsets items leaves blank) o below rs) ds q r
    made {t} ds r q u a calm w =
        let here : Rest t q (58 ∷ after_then o below rs ds r) = subst (λ z. Rest t q z) (after_inline column (58 ∷ []) offsets items leaves blank o below rs ds r) w in
        let colon = visible_at 58 u (omega arith) (omega arith) here in
        let wide : width (written s.style k) + width (colon_after k) ≡ 1 = ap (λ z. width z + width (colon_after k)) said ∙ (ap (λ z. width [] + width z) colon_is ∙ bare_width) in
        let head : AnyHead column (58 ∷ []) items leaves blank q q q [] [] = record { width = refl; items_stand = one_inside (omega arith) (omega arith) none_inside; leaves_stand = none_inside; leaves_to = no_leaf_to } in
        let one = value_made column (58 ∷ []) offsets items leaves blank o below ds r q (width (written s.style k) + width (colon_after k)) head
        (λ b. on_same (omega (arith, wide)) refl (on_sign 58 (after_then o below rs ds r) u (omega arith) (omega arith) b here)) (λ e. value_right s margins column k v (is_some o) are_margins flag e) value same deep colon.0 u stood a calm colon.1 in
        let value_set : SetDone t s.style (value_entries s.style column v) (column + s.style.indent) one.meaning.events = subst (λ z. SetDone t s.style z (column + s.style.indent) one.meaning.events) (ap (λ z. z.entries) are_margins) one.set in
        let high : one.height ≤ tall v = one.low in
        record {
          height = one.height;
          place = one.place;
          meaning = entering q (Some q) (empty_node q) ⊕ one.meaning;
          derived = an_unkeyed_entry one.derived;
          low = omega (arith, high);
          rest = one.rest;
          start = one.start;
          found_rows = one.found_rows;
          meant = found_implicit (empty_node q) q q bare_node (is_some o) flag implicit (bare_alike q (n.meant q)) (bare_events q) (bare_escapes q) (is_at_nowhere (omega arith) refl)
              (record { line = line_nothing; follows = 58 ∷ after_then o below rs ds r; there = here; flow = λ f. absurd (true≢false (sym f)); quoted = one_quote _ tt no_quotes }) one.head
              (subst (λ z. FoundNode t s z v one.meaning one.inner) are_margins one.meant) (subst (λ z. KeyRows t (q ∷ []) [] (is_some o) z one.inner one.found_rows) same one.keyed);
          placed = subst (λ z. RowsIn t (after_key (key_head column (58 ∷ []) offsets items leaves blank) o below rs) one.found_rows ds q z one.place r)
              (sym (comments_both (entering q (Some q) (empty_node q)) one.meaning ∙ ap (λ z. z ++ one.meaning.comments) (comments_entering q (Some q) (empty_node q) ∙ empty_silent q))) one.placed;
          is = texts_both (entering q (Some q) (empty_node q)) one.meaning
              ∙ (ap (λ z. z ++ texts one.meaning.comments) (texts_entering q (Some q) (empty_node q) ∙ texts_empty q) ∙ one.is);
          laid = subst (λ z. MeaningLaid q one.place (entering q (Some q) (empty_node q) ⊕ one.meaning) z)
              (ap (λ z. leaf_steps z ++ steps_after o below rs ds) (sym none) ∙ sym (after_steps column (58 ∷ []) offsets items leaves blank o below rs ds))
              (laid_both {k = q} (entering q (Some q) (empty_node q)) one.meaning (laid_entering q (Some q) (empty_node q) (laid_empty q (omega arith))) one.laid (omega arith));
          set = set_implicit column q q (empty_node q) one.meaning bare_node (bare_alike q (n.meant q)) implicit (empty_flow q) (bare_events q)
              (λ f g. let here : code t q ≡ 58 = colon.0 in absurd (omega (arith, f, here))) (meant_of one.meant) value_set;
          held = held_after (entering q (Some q) (empty_node q)) one.meaning (after_key (key_head column (58 ∷ []) offsets items leaves blank) o below rs) ds r
              (entering_silent q (Some q) (empty_node q) (empty_silent q)) one.held;
        }
