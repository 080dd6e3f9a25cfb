-- What it means that the rows of a node, at any offset and with what they carry, are derived as that node; leaves on
-- one line, and nodes after a sign.
use Rattle.std.proofs.Common.{◌≡◌, ◌≢◌, ℕ, ◌+◌, ◌-◌, ◌<◌, ◌≤◌, ℤ, pos, Bool, true, false, List, [], ◌∷◌, ◌++◌, length, replicate, refl, sym, ap, ◌∙◌, subst, arith, append_assoc, append-nil, ◌⊎◌, inl, inr}
use Rattle.std.specs.Prelude.{◌≤ℤ◌, ◌+ℤ◌, not, is_some, None}
use Rattle.std.specs.Str.{IsUtf8}
use Rattle.yf_chars.specs.declared.context.Ctx.{Ctx}
use Rattle.yf_chars.specs.declared.context.Ctx.TheVariants.{FlowOut}
use Rattle.yf_chars.specs.Text.{code}
use Rattle.yf_lines.specs.Basic.{is_block, LineStart}
use Rattle.yf_lines.proofs.RestLemmas.{Rest, rest_ascii, rest_spaces, rest_text}
use Rattle.yf_comments.specs.Comment.{CommentValue}
use Rattle.yf_comments.proofs.GapLinesLemmas.{texts}
use Rattle.yf_block_scalar.specs.Body.{base}
use Rattle.yf_events.specs.Tree.{Node, leaves, is_sequence}
use Rattle.yf_grammar.specs.Productions.Grammar.{Derives, BlockIndented, least_column}
use Rattle.yf_grammar.specs.Productions.Grammar.Derives.{flow_node, nothing_indented}
use Rattle.yf_grammar.specs.Productions.Meaning.{Meaning, noting, empty_node}
use Rattle.yf_grammar.specs.Productions.TreesOfMeaning.{MeansTrees, tall}
use Rattle.yf_grammar.proofs.Ends.BlankRuns.{after_byte}
use Rattle.yf_grammar.proofs.Documents.CommentOrder.{end_ascends}
use Rattle.yf_grammar.proofs.WrittenTexts.LeafBack.{any_follow}
use Rattle.yf_grammar.proofs.NodesInText.MeantLemmas.{texts_noting, texts_empty}
use Rattle.yf_grammar.proofs.BlockOutcomes.NodesAfter.{node_next}
use Rattle.yf_grammar.proofs.NodesInText.PlacesDerived.{places}
use Rattle.yf_laws.specs.Layouts.RowComments.{AreDecos, carried_texts, comments_in, Calm}
use Rattle.yf_laws.specs.Layouts.Decorated.{Deco, first, after, trails_then, end_then, lines_then, inline_then}
use Rattle.yf_laws.specs.Layouts.ReadableTrees.{LineNode, is_inline}
use Rattle.yf_forms.specs.NormalForms.Normal.{LayoutSetting, Margins}
use Rattle.yf_forms.specs.Nodes.OneLine.{written}
use Rattle.yf_print.specs.Layouts.Rows.{Row, anywhere, joined, begins_below, start_of, is_dash}
use Rattle.yf_laws.proofs.Derived.LayoutSteps.{steps_in}
use Rattle.yf_laws.proofs.OutputLines.HeldLemmas.{Held, empty_silent, held_joined, held_line, row_ended}
use Rattle.yf_laws.proofs.Columns.FlowEvents.{flow_means}
use Rattle.yf_laws.proofs.Columns.FlowHeads.{bracketed}
use Rattle.yf_laws.proofs.RowNodes.FoundLines.{line_found}
use Rattle.yf_laws.proofs.RowNodes.FoundNodes.{FoundNode, SignRows, sign_alone, sign_joined, found_noting, found_nothing}
use Rattle.yf_laws.proofs.Derived.LaidRows.{laid_row, laid_line}
use Rattle.yf_laws.proofs.Columns.LinePlaces.{OnLine, on_same, on_sign, on_spaces}
use Rattle.yf_laws.proofs.Derived.NodePlaces.{NodeAt, leaf_at, after_sign_at}
use Rattle.yf_laws.proofs.RowNodes.PlacedRows.{never_bare, none_inside, one_inside, PlacedRow, no_leaf_to, after_line, RowsIn, last_row, row_before, joined_placed, rows_joined}
use Rattle.yf_laws.proofs.Derived.RowEnds.{row_end, end_follows, first_deco}
use Rattle.yf_laws.proofs.Columns.SetMeant.{column_more, SetMeant, SetSigned, set_flow, set_noting, signed_of, signed_empty}
use Rattle.yf_laws.proofs.Columns.SetNodes.{ColumnAt}
use Rattle.yf_laws.proofs.Derived.StepsInText.{MeaningLaid, laid_after, laid_empty}
use Rattle.yf_print.specs.Layouts.SourceColumns.{is_white_or_sign}
use Rattle.yf_lines.proofs.VisibleLines.{visible_at}
use Rattle.yf_stream.proofs.Uniqueness.OneDirective.{ascii_ns}

-- a node's position in its block: in a block context, with its entries at an allowed column, and the lines of a block
-- scalar that many columns right of the indentation around it
pub record Stood (s : LayoutSetting) (x : Node) (n : ℤ) (c : Ctx) (margins : Margins) : Type 0 where
  pub block : is_block c ≡ true
  pub least : least_column (is_sequence x) n c ≤ℤ pos margins.entries
  pub lines : margins.lines ≡ base n + s.style.indent

-- the node whose first row's text is at q, up to the row that r begins with
pub record NodeMade (t : List ℕ) (s : LayoutSetting) (n : ℤ) (c : Ctx) (margins : Margins) (x : Node) (rs : List Row) (ds : List Deco) (q : ℕ) (r : List ℕ) : Type 0 where
  pub height : ℕ
  pub place : ℕ
  pub meaning : Meaning
  pub at : NodeAt t n c margins.entries (not (begins_below x)) height q place meaning
  pub low : height ≤ tall x
  pub rest : Rest t place r
  pub start : LineStart t place
  pub found_rows : List PlacedRow
  pub meant : FoundNode t s margins x meaning found_rows
  pub is : texts meaning.comments ≡ comments_in rs ds
  pub laid : MeaningLaid q place meaning (steps_in rs ds)
  pub held : Held t meaning rs ds r
  pub set : SetMeant t s.style margins.entries (base n + s.style.indent) (begins_below x) q meaning
  pub placed : RowsIn t rs found_rows ds q meaning.comments place r

pub record Makes (s : LayoutSetting) (x : Node) (margins : Margins) (rs : List Row) : Type 0 where
  pub made : {t : List ℕ} (n : ℤ) (c : Ctx) (ds : List Deco) (r : List ℕ) (q : ℕ) → IsUtf8 t → Stood s x n c margins → AreDecos ds → Calm rs ds r
      → Rest t q (inline_then rs ds r) → NodeMade t s n c margins x rs ds q r

-- the claim for a node and its rows: it has none and means nothing, or they are derived as the node
pub record MeansNothing (x : Node) : Type 0 where
  pub meant : (i : ℕ) → MeansTrees x (empty_node i)

pub data Claim (s : LayoutSetting) (x : Node) (margins : Margins) : List Row → Type 0 where
  no_row : MeansNothing x → Claim s x margins []
  some_rows : {r : Row} {rs : List Row} → (begins_below x ≡ false → r.column ≡ margins.column) → (begins_below x ≡ true → r.column ≡ margins.entries)
      → Makes s x margins (r ∷ rs) → Claim s x margins (r ∷ rs)

-- A leaf or a flow collection on one line.

pub line_made : {t : List ℕ} {s : LayoutSetting} {x : Node} {r : Row} (margins : Margins) (n : ℤ) (c : Ctx) (ds : List Deco) (z : List ℕ) (q : ℕ) → begins_below x ≡ false
    → is_inline x ≡ true → written s.style x ≢ [] → is_some r.key_comment ≡ false → r.text ≡ written s.style x → r.column ≡ margins.column → r.body ≡ [] → length r.leaves ≡ length (leaves x) → LineNode s.style FlowOut x → IsUtf8 t → Stood s x n c margins → AreDecos ds → Rest t q (inline_then (r ∷ []) ds z)
    → NodeMade t s n c margins x (r ∷ []) ds q z
line_made {t} {s} {x} {r} margins n c ds z q b inline some key text column body count node u stood a w =
    let there : Rest t q (written s.style x ++ end_then (first ds) [] z) =
    subst (λ l. Rest t q (written s.style x ++ end_then (first ds) l z)) body (subst (λ v. Rest t q (v ++ end_then (first ds) r.body z)) text w) in
    let derived = node.back.made (n +ℤ pos 1) q (end_then (first ds) [] z) u (any_follow node.colon (end_follows (first ds) [] z)) there in
    let after_text = rest_text (written s.style x) u node.back.line there in
    let end = row_end (first ds) z u (first_deco a) after_text.rest in
    let at = leaf_at {c = c} margins.entries stood.block (flow_node derived) end.end in
    let found = line_found {row = r} s margins ds (end_then (first ds) [] z) inline some text column body key node.back.line there (λ y e f. bracketed y u derived e f) (node.quoted t q (end_then (first ds) [] z) u there) (places u derived refl) (node.meant q) (node.silent q) end.end end.is end.start end.rest in
    record {
      height = node.height;
      place = end.place;
      meaning = noting (node.mean q) end.comments;
      at = subst (λ f. NodeAt t n c margins.entries f node.height q end.place (noting (node.mean q) end.comments)) (ap not (sym b)) at;
      low = node.low;
      rest = end.rest;
      start = end.start;
      found_rows = found.found_rows;
      meant = found.meant;
      placed = found.placed;
      is = texts_noting (node.mean q) end.comments ∙ (ap (λ k. texts k ++ texts end.comments) (node.silent q) ∙ (end.is ∙ sym (append-nil (carried_texts (first ds)))));
      laid = laid_row (node.mean q) end.comments r.leaves (laid_line r.leaves (places u derived refl) (node.meant q) (node.silent q) count) (end_ascends end.end) end.is;
      set = set_noting end.comments (let at = places u derived refl in set_flow at.node (flow_means derived tt) at.events);
      held = held_line (node.mean q) end.comments r ds z body (node.silent q) (row_ended (first ds) z u (node_next u derived) (first_deco a) after_text.rest end.end);
    }

-- After a sign.

abbrev pub sign_row : ℕ → ℕ → List ℕ → List ℕ → Bool → Row
sign_row column sign offsets items blank =
    record { column = column; text = sign ∷ []; starts = start_of column (is_dash (sign ∷ [])) offsets ∷ []; items = items; leaves = []; key_comment = None; blank_before = blank; begins = false; ending = anywhere; body = []; lines = 0 }

pub record SignMade (t : List ℕ) (s : LayoutSetting) (a : ℕ) (c : Ctx) (sign : ℕ) (margins : Margins) (x : Node) (rs : List Row) (ds : List Deco) (q : ℕ) (r : List ℕ) : Type 0 where
  pub height : ℕ
  pub place : ℕ
  pub meaning : Meaning
  pub is_there : code t q ≡ sign
  pub follows : (code t (q + 1) ≡ 32) ⊎ (code t (q + 1) ≡ 10)
  pub derived : Derives t height (BlockIndented a c) (q + 1) place meaning
  pub low : height ≤ tall x
  pub rest : Rest t place r
  pub start : LineStart t place
  pub inner : List PlacedRow
  pub meant : FoundNode t s margins x meaning inner
  pub is : texts meaning.comments ≡ comments_in rs ds
  pub laid : MeaningLaid q place meaning (steps_in rs ds)
  pub held : Held t meaning rs ds r
  pub set : SetSigned t s.style a q meaning
  pub found_rows : List PlacedRow
  pub signed : SignRows t (q ∷ []) inner found_rows
  pub placed : RowsIn t rs found_rows ds q meaning.comments place r

end_code : {t : List ℕ} {q : ℕ} (xs : List (List ℕ)) (r : List ℕ) → IsUtf8 t → Rest t q (trails_then xs (10 ∷ r)) → (code t q ≡ 32) ⊎ (code t q ≡ 10)
end_code [] r u s = inr (rest_ascii 10 u (omega arith) (λ e. absurd (omega arith)) s).0.char
end_code (x ∷ xs) r u s = inl (rest_ascii 32 u (omega arith) (λ e. absurd (omega arith)) s).0.char

-- an empty node has no comments of its own
pub noting_nothing : (k : ℕ) (cs : List CommentValue) → (noting (empty_node k) cs).comments ≡ cs
unfolding noting empty_node
noting_nothing k cs = refl

-- the rows of a node after a sign at q
record After (t : List ℕ) (rs : List Row) (inner : List PlacedRow) (ds : List Deco) (q : ℕ) (cs : List CommentValue) (place : ℕ) (r : List ℕ) : Type 0 where
  found_rows : List PlacedRow
  signed : SignRows t (q ∷ []) inner found_rows
  placed : RowsIn t rs found_rows ds q cs place r

rows_after : {t : List ℕ} {y : Row} {ys : List Row} {ps : List PlacedRow} {ds : List Deco} {i place : ℕ} {cs : List CommentValue} {r : List ℕ} (sign column : ℕ) (offsets items : List ℕ) (blank : Bool) (n q : ℕ)
    → i ≡ q + 1 + n → (OnLine t column q → OnLine t y.column i) → RowsIn t (y ∷ ys) ps ds i cs place r → After t (joined (sign_row column sign offsets items blank) n (y ∷ ys)) ps ds q cs place r
rows_after sign column offsets items blank n q e on (last_row {p = p} at end w) = record {
  found_rows = joined_placed (q ∷ []) [] column q p ∷ [];
  signed = sign_joined refl refl refl (let f = at.from in omega (arith, e, f)) refl (λ a. on_same at.column (sym at.from) (on a)) refl;
  placed = rows_joined (sign_row column sign offsets items blank) n q q [] [] e (one_inside (omega arith) (omega (arith, e)) none_inside) none_inside no_leaf_to (last_row at end w);
}
rows_after sign column offsets items blank n q e on (row_before {p = p} {ps = ps} at end w more) = record {
  found_rows = joined_placed (q ∷ []) [] column q p ∷ ps;
  signed = sign_joined refl refl refl (let f = at.from in omega (arith, e, f)) refl (λ a. on_same at.column (sym at.from) (on a)) refl;
  placed = rows_joined (sign_row column sign offsets items blank) n q q [] [] e (one_inside (omega arith) (omega (arith, e)) none_inside) none_inside no_leaf_to (row_before at end w more);
}

-- the column of the first row of a node
row_column : {k m : ℕ} (b : Bool) → (b ≡ false → k ≡ m) → (b ≡ true → k ≡ m) → k ≡ m
row_column true f g = g refl
row_column false f g = f refl

pub sign_made : {t : List ℕ} {s : LayoutSetting} {x : Node} {margins : Margins} {rs : List Row} (a sign : ℕ) (offsets items : List ℕ) (blank : Bool) (c : Ctx) (ds : List Deco) (r : List ℕ) (q : ℕ)
    → 33 ≤ sign → sign < 127 → is_white_or_sign sign ≡ true → 2 ≤ s.style.indent → Claim s x margins rs → margins.column ≡ a + s.style.indent → margins.entries ≡ a + s.style.indent → IsUtf8 t → Stood s x (pos a) c margins → AreDecos ds
    → Calm (joined (sign_row a sign offsets items blank) (s.style.indent - 1) rs) ds r → Rest t q (inline_then (joined (sign_row a sign offsets items blank) (s.style.indent - 1) rs) ds r)
    → SignMade t s a c sign margins x (joined (sign_row a sign offsets items blank) (s.style.indent - 1) rs) ds q r
sign_made {t} {s} {x} {margins} a sign offsets items blank c ds r q low high class wide (no_row m) f e u stood k calm w =
    let at = visible_at sign u (omega (arith, low)) high w in
    let end = row_end (first ds) r u (first_deco k) at.1 in
    let row : PlacedRow = record { items = q ∷ []; leaves = []; commented = false; column = a; from = q; upto = q + 1 } in
    record {
      height = 0;
      place = end.place;
      meaning = noting (empty_node (q + 1)) end.comments;
      is_there = at.0;
      follows = end_code (first ds).trails _ u at.1;
      derived = nothing_indented stood.block end.end;
      low = omega arith;
      rest = end.rest;
      start = end.start;
      inner = [];
      meant = found_noting end.comments (found_nothing (q + 1) (m.meant (q + 1)));
      found_rows = row ∷ [];
      signed = sign_alone refl refl refl refl;
      placed = subst (λ v. RowsIn t (sign_row a sign offsets items blank ∷ []) (row ∷ []) ds q v end.place r) (sym (noting_nothing (q + 1) end.comments))
          (last_row (record {
            from = refl;
            order = omega arith;
            size = λ z. refl;
            items = one_inside (omega arith) (omega arith) none_inside;
            leaves = none_inside;
            commented = refl;
            bare = λ z. never_bare z;
            column = refl;
          }) (record { ascend = end_ascends end.end; is = end.is; start = end.start; tail = after_line refl end.end no_leaf_to }) end.rest);
      is = texts_noting (empty_node (q + 1)) end.comments ∙ (ap (λ z. z ++ texts end.comments) (texts_empty (q + 1)) ∙ (end.is ∙ sym (append-nil (carried_texts (first ds)))));
      laid = laid_row (empty_node (q + 1)) end.comments [] (laid_empty (q + 1) (omega arith)) (end_ascends end.end) end.is;
      set = signed_empty (q + 1) end.comments;
      held = held_line (empty_node (q + 1)) end.comments (sign_row a sign offsets items blank) ds r refl (empty_silent (q + 1))
          (row_ended (first ds) r u (after_byte q u at.0 (omega arith) (ascii_ns sign low high)) (first_deco k) at.1 end.end);
    }
sign_made {t} {s} {x} {margins} a sign offsets items blank c ds r q low high class wide (some_rows {r = y} {rs = ys} f g m) h e u stood k calm w =
    let n : ℕ = s.style.indent - 1 in
    let same : (replicate n 32 ++ y.text) ++ end_then (first ds) y.body (lines_then ys (after ds) r) ≡ replicate n 32 ++ inline_then (y ∷ ys) ds r =
    append_assoc (replicate n 32) y.text (end_then (first ds) y.body (lines_then ys (after ds) r)) in
    let here : Rest t q (sign ∷ (replicate n 32 ++ inline_then (y ∷ ys) ds r)) = subst (λ v. Rest t q (sign ∷ v)) same w in
    let at = visible_at sign u (omega (arith, low)) high here in
    let spaces = rest_spaces n (q + 1) u at.1 in
    let is_there : y.column ≡ a + 1 + n = row_column (begins_below x) (λ z. f z ∙ (h ∙ omega arith)) (λ z. g z ∙ (e ∙ omega arith)) in
    let node = m.made (pos a) c ds r (q + 1 + n) u stood k calm spaces.1 in
    let zero_more : q + 1 + 0 ≡ q + 1 = omega arith in
    let after_it = rows_after sign a offsets items blank n q refl
    (λ b. on_same (sym is_there) refl (on_spaces n (inline_then (y ∷ ys) ds r) u (on_sign sign (replicate n 32 ++ inline_then (y ∷ ys) ds r) u (omega (arith, low)) high b here) at.1)) node.placed in
    record {
      height = node.height;
      place = node.place;
      meaning = node.meaning;
      is_there = at.0;
      follows = inl (ap (code t) (sym zero_more) ∙ spaces.0.each 0 (omega arith));
      derived = after_sign_at n stood.block (omega arith) (e ∙ omega arith) spaces.0 refl node.at;
      low = node.low;
      rest = node.rest;
      start = node.start;
      inner = node.found_rows;
      meant = node.meant;
      found_rows = after_it.found_rows;
      signed = after_it.signed;
      placed = after_it.placed;
      is = node.is;
      set = signed_of (λ b. subst (λ z. ColumnAt t z (q + 1 + n)) (omega arith) (column_more sign n b at.0 (omega (arith, low)) high class spaces.0))
          (subst (λ z. SetMeant t s.style z (a + s.style.indent) (begins_below x) (q + 1 + n) node.meaning) e node.set);
      laid = laid_after (omega arith) node.laid;
      held = held_joined (sign_row a sign offsets items blank) n y ys ds r node.held;
    }
