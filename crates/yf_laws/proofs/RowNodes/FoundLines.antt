-- A node on one line is found on its row.
use Rattle.std.proofs.Common.{◌≡◌, ◌≢◌, ℕ, ◌+◌, ◌<◌, ◌≤◌, true, false, List, [], ◌∷◌, ◌++◌, length, Option, Some, None, refl, sym, ap, ◌∙◌, subst, arith, append-nil}
use Rattle.std.specs.Prelude.{is_some}
use Rattle.yf_lines.specs.Basic.{LineStart}
use Rattle.yf_lines.specs.LineText.{IsLineText}
use Rattle.yf_lines.specs.Rest.{Rest}
use Rattle.yf_comments.specs.Comment.{CommentValue}
use Rattle.yf_comments.specs.Comments.{LineEnd}
use Rattle.yf_comments.proofs.GapLinesLemmas.{texts}
use Rattle.yf_events.specs.Alike.{Alike, alike_scalars, alike_aliases, alike_sequences, alike_mappings}
use Rattle.yf_events.specs.declared.event.Entry.{Entry}
use Rattle.yf_events.specs.declared.event.ScalarStyle.{ScalarStyle}
use Rattle.yf_events.specs.declared.event.ScalarStyle.TheVariants.{Plain, Single, Double, Literal, Folded}
use Rattle.yf_events.specs.declared.event.Span.{Span}
use Rattle.yf_events.specs.Tree.{Node, scalar, Items, Pairs, flat, leaves, leaves_of_items, leaves_of_pairs, items_in, items_in_items, items_in_pairs, starts_of_entry, spans_of_leaf}
use Rattle.yf_events.proofs.TreeLemmas.{node_unique}
use Rattle.yf_grammar.specs.Productions.Meaning.{Meaning, noting, from_to}
use Rattle.yf_grammar.specs.Productions.TreesOfMeaning.{Anywhere, MeansTrees}
use Rattle.yf_grammar.proofs.Documents.CommentOrder.{Ascend, end_ascends}
use Rattle.yf_grammar.proofs.NodesInText.NodePlaces.{NodeIsAt, is_at_nowhere, scalar_is_at, alias_is_at, sequence_is_at, mapping_is_at, ItemsStand, no_items_stand, item_is_at, PairsStand, no_pairs_stand, pair_is_at, node_order, items_order, pairs_order, node_upto, colon_order}
use Rattle.yf_grammar.proofs.NodesInText.PlacedNodes.{NodeAt}
use Rattle.yf_grammar.proofs.NodesInText.MeantLemmas.{noting_comments}
use Rattle.yf_forms.specs.declared.style.Style.{Style}
use Rattle.yf_forms.specs.NormalForms.Normal.{LayoutSetting, Margins}
use Rattle.yf_laws.specs.Layouts.RowComments.{carried_texts}
use Rattle.yf_laws.specs.Layouts.WrittenQuotes.{QuotesWritten}
use Rattle.yf_laws.specs.Layouts.Decorated.{Deco, first}
use Rattle.yf_laws.specs.Layouts.ReadableTrees.{is_inline}
use Rattle.yf_forms.specs.Nodes.OneLine.{written}
use Rattle.yf_print.specs.Layouts.Rows.{Row}
use Rattle.yf_laws.proofs.SecondRun.AlikeLemmas.{same_written}
use Rattle.yf_laws.proofs.Columns.FlowHeads.{Bracketed, is_bracketed}
use Rattle.yf_laws.proofs.RowNodes.FoundNodes.{FoundNode, NodeText, line_rows, found_noting}
use Rattle.yf_laws.proofs.RowNodes.PlacedRows.{Inside, none_inside, one_inside, inside_join, inside_wider, LeavesTo, no_leaf_to, leaf_to, leaves_to_join, leaves_to_wider, after_line, PlacedRow, RowsIn, last_row}
use Rattle.yf_laws.proofs.Derived.StepsInText.{starts_of, starts_append}

-- On one line between two offsets.

leaf_inside : {i j : ℕ} (a b : ℕ) (o : Option Span) → o ≡ from_to a b → i ≤ a → a ≤ j → Inside i j (starts_of (spans_of_leaf o))
unfolding from_to
leaf_inside {i} {j} a b o e l m = subst (λ w. Inside i j (starts_of (spans_of_leaf w))) (sym e) (one_inside l m none_inside)

mutual
  pub items_inside : {t : List ℕ} {i j : ℕ} {x : Node} → NodeIsAt t i j x → Inside i j (items_in x)
  items_inside {i = i} {j = j} (is_at_nowhere m e) = subst (λ w. Inside i j (starts_of (spans_of_leaf w))) (sym e) none_inside
  items_inside (scalar_is_at {at = at} e b l m w s) = leaf_inside _ _ at.span e b.order (omega (arith, l, m))
  items_inside (alias_is_at {at = at} e b l m s) = leaf_inside _ _ at.span e b.order (omega (arith, l, m))
  items_inside (sequence_is_at {at = at} e b (no_items_stand l) m s) = let n = b.inner in leaf_inside _ _ at.span e b.order (omega (arith, l, m, n))
  items_inside (sequence_is_at e b (item_is_at f q l a c) m s) = let o = b.order in let n = b.inner in inside_wider (omega (arith, o, n)) m (list_inside (item_is_at f q l a c))
  items_inside (mapping_is_at {at = at} e b (no_pairs_stand l) m s) = let n = b.inner in leaf_inside _ _ at.span e b.order (omega (arith, l, m, n))
  items_inside (mapping_is_at e b (pair_is_at f q l a c d g) m s) = let o = b.order in let n = b.inner in inside_wider (omega (arith, o, n)) m (pairs_inside (pair_is_at f q l a c d g))

  list_inside : {t : List ℕ} {i j : ℕ} {xs : Items} → ItemsStand t i j xs → Inside i j (items_in_items xs)
  list_inside (no_items_stand l) = none_inside
  list_inside {i = i} {j = j} (item_is_at {k = k} f q l a c) =
      let o = l.order in
      let m : f.start ≤ k = node_order a in
      let n : k ≤ j = items_order c in
      inside_join (subst (λ w. Inside i j (starts_of_entry w)) (sym q) (one_inside o (omega (arith, m, n)) none_inside))
      (inside_join (inside_wider o n (items_inside a)) (inside_wider (omega (arith, o, m)) (omega arith) (list_inside c)))

  pairs_inside : {t : List ℕ} {i j : ℕ} {ps : Pairs} → PairsStand t i j ps → Inside i j (items_in_pairs ps)
  pairs_inside (no_pairs_stand l) = none_inside
  pairs_inside {i = i} {j = j} (pair_is_at {l = h} {m = m} {n = n} f q l a c d g) =
      let o = l.order in
      let one : f.start ≤ h = node_order a in
      let two : h ≤ m = colon_order c in
      let three : m ≤ n = node_order d in
      let four : n ≤ j = pairs_order g in
      inside_join (subst (λ w. Inside i j (starts_of_entry w)) (sym q.key) (one_inside o (omega (arith, one, two, three, four)) none_inside))
      (inside_join (inside_wider o (omega (arith, two, three, four)) (items_inside a))
      (inside_join (inside_wider (omega (arith, o, one, two)) four (items_inside d)) (inside_wider (omega (arith, o, one, two, three)) (omega arith) (pairs_inside g))))

leaves_both : {i j : ℕ} (xs ys : List Span) → Inside i j (starts_of xs) → Inside i j (starts_of ys) → Inside i j (starts_of (xs ++ ys))
leaves_both {i} {j} xs ys a b = subst (λ w. Inside i j w) (sym (starts_append xs ys)) (inside_join a b)

mutual
  pub leaves_inside : {t : List ℕ} {i j : ℕ} {x : Node} → NodeIsAt t i j x → Inside i j (starts_of (leaves x))
  leaves_inside {i = i} {j = j} (is_at_nowhere m e) = subst (λ w. Inside i j (starts_of (spans_of_leaf w))) (sym e) none_inside
  leaves_inside (scalar_is_at {at = at} e b l m w s) = leaf_inside _ _ at.span e b.order (omega (arith, l, m))
  leaves_inside (alias_is_at {at = at} e b l m s) = leaf_inside _ _ at.span e b.order (omega (arith, l, m))
  leaves_inside (sequence_is_at {at = at} e b (no_items_stand l) m s) = let n = b.inner in leaf_inside _ _ at.span e b.order (omega (arith, l, m, n))
  leaves_inside (sequence_is_at e b (item_is_at f q l a c) m s) = let o = b.order in let n = b.inner in inside_wider (omega (arith, o, n)) m (list_leaves (item_is_at f q l a c))
  leaves_inside (mapping_is_at {at = at} e b (no_pairs_stand l) m s) = let n = b.inner in leaf_inside _ _ at.span e b.order (omega (arith, l, m, n))
  leaves_inside (mapping_is_at e b (pair_is_at f q l a c d g) m s) = let o = b.order in let n = b.inner in inside_wider (omega (arith, o, n)) m (pairs_leaves (pair_is_at f q l a c d g))

  list_leaves : {t : List ℕ} {i j : ℕ} {xs : Items} → ItemsStand t i j xs → Inside i j (starts_of (leaves_of_items xs))
  list_leaves (no_items_stand l) = none_inside
  list_leaves {i = i} {j = j} (item_is_at {k = k} {x = x} {xs = xs} f q l a c) =
      let o = l.order in
      let m : f.start ≤ k = node_order a in
      let n : k ≤ j = items_order c in
      leaves_both (leaves x) (leaves_of_items xs) (inside_wider o n (leaves_inside a)) (inside_wider (omega (arith, o, m)) (omega arith) (list_leaves c))

  pairs_leaves : {t : List ℕ} {i j : ℕ} {ps : Pairs} → PairsStand t i j ps → Inside i j (starts_of (leaves_of_pairs ps))
  pairs_leaves (no_pairs_stand l) = none_inside
  pairs_leaves {i = i} {j = j} (pair_is_at {l = h} {m = m} {n = n} {k = k} {v = v} {ps = ps} f q l a c d g) =
      let o = l.order in
      let one : f.start ≤ h = node_order a in
      let two : h ≤ m = colon_order c in
      let three : m ≤ n = node_order d in
      let four : n ≤ j = pairs_order g in
      leaves_both (leaves k) (leaves v ++ leaves_of_pairs ps) (inside_wider o (omega (arith, two, three, four)) (leaves_inside a))
      (leaves_both (leaves v) (leaves_of_pairs ps) (inside_wider (omega (arith, o, one, two)) four (leaves_inside d)) (inside_wider (omega (arith, o, one, two, three)) (omega arith) (pairs_leaves g)))

-- the ends of leaves

leaf_end : {j : ℕ} (a b : ℕ) (o : Option Span) → o ≡ from_to a b → a < b → b ≤ j → LeavesTo j (spans_of_leaf o)
unfolding from_to
leaf_end {j} a b o e l m = subst (λ w. LeavesTo j (spans_of_leaf w)) (sym e) (leaf_to l m no_leaf_to)

mutual
  pub leaves_end : {t : List ℕ} {i j : ℕ} {x : Node} → NodeIsAt t i j x → LeavesTo j (leaves x)
  leaves_end {j = j} (is_at_nowhere m e) = subst (λ w. LeavesTo j (spans_of_leaf w)) (sym e) no_leaf_to
  leaves_end (scalar_is_at {at = at} e b l m w s) = leaf_end _ _ at.span e l m
  leaves_end (alias_is_at {at = at} e b l m s) = leaf_end _ _ at.span e l m
  leaves_end (sequence_is_at {at = at} e b (no_items_stand l) m s) = let n = b.inner in let w = b.wide in leaf_end _ _ at.span e (omega (arith, n, w)) m
  leaves_end (sequence_is_at e b (item_is_at f q l a c) m s) = leaves_to_wider m (list_end (item_is_at f q l a c))
  leaves_end (mapping_is_at {at = at} e b (no_pairs_stand l) m s) = let n = b.inner in let w = b.wide in leaf_end _ _ at.span e (omega (arith, n, w)) m
  leaves_end (mapping_is_at e b (pair_is_at f q l a c d g) m s) = leaves_to_wider m (pairs_end (pair_is_at f q l a c d g))

  list_end : {t : List ℕ} {i j : ℕ} {xs : Items} → ItemsStand t i j xs → LeavesTo j (leaves_of_items xs)
  list_end (no_items_stand l) = no_leaf_to
  list_end (item_is_at f q l a c) = leaves_to_join (leaves_to_wider (items_order c) (leaves_end a)) (list_end c)

  pairs_end : {t : List ℕ} {i j : ℕ} {ps : Pairs} → PairsStand t i j ps → LeavesTo j (leaves_of_pairs ps)
  pairs_end (no_pairs_stand l) = no_leaf_to
  pairs_end (pair_is_at f q l a c d g) =
      let two = colon_order c in
      let three = node_order d in
      let four = pairs_order g in
      leaves_to_join (leaves_to_wider (omega (arith, two, three, four)) (leaves_end a)) (leaves_to_join (leaves_to_wider four (leaves_end d)) (pairs_end g))

-- a node that is written has an item on its row
some_start : (a b : ℕ) (o : Option Span) → o ≡ from_to a b → starts_of (spans_of_leaf o) ≡ [] → ⊥
unfolding from_to
some_start a b None e z = absurd cc
some_start a b (Some s) e z = absurd cc

entry_some : (e : Entry) (o : Option Entry) (rest : List ℕ) → o ≡ Some e → starts_of_entry o ++ rest ≡ [] → ⊥
entry_some e None rest f z = absurd cc
entry_some e (Some g) rest f z = absurd cc

pub items_some : (house : Style) {t : List ℕ} {i j : ℕ} {x : Node} → NodeIsAt t i j x → written house x ≢ [] → items_in x ≡ [] → ⊥
items_some house (is_at_nowhere m e) n z = n refl
items_some house (scalar_is_at {at = at} e b l m w s) n z = some_start _ _ at.span e z
items_some house (alias_is_at {at = at} e b l m s) n z = some_start _ _ at.span e z
items_some house (sequence_is_at {at = at} e b (no_items_stand l) m s) n z = some_start _ _ at.span e z
items_some house (sequence_is_at e b (item_is_at f q l a c) m s) n z = entry_some f _ _ q z
items_some house (mapping_is_at {at = at} e b (no_pairs_stand l) m s) n z = some_start _ _ at.span e z
items_some house (mapping_is_at e b (pair_is_at f q l a c d g) m s) n z = entry_some f _ _ q.key z

pub same_inline : {K : Node → Node → Node → Node → Type 0} {x y : Node} → Alike K x y → is_inline x ≡ is_inline y
same_inline (alike_scalars {at = at} {bt = bt} {props = props} {style = style} {text = text} {lines = lines} e) = by style where
  by : (style : ScalarStyle) → is_inline (scalar at props style text lines) ≡ is_inline (scalar bt props style text lines)
  by Plain = refl
  by Single = refl
  by Double = refl
  by Literal = refl
  by Folded = refl
same_inline (alike_aliases e) = refl
same_inline (alike_sequences e a) = refl
same_inline (alike_mappings e a) = refl

-- The node on its row.

pub record LineFound (t : List ℕ) (s : LayoutSetting) (margins : Margins) (x : Node) (meaning : Meaning) (row : Row) (ds : List Deco) (q place : ℕ) (z : List ℕ) : Type 0 where
  pub found_rows : List PlacedRow
  pub meant : FoundNode t s margins x meaning found_rows
  pub placed : RowsIn t (row ∷ []) found_rows ds q meaning.comments place z

-- the node that a production means is the one that is placed
pub placed_node : {t : List ℕ} {i j : ℕ} {x : Node} {mean : Meaning} (a : NodeAt t i j mean) → MeansTrees x mean → Alike Anywhere x a.node
placed_node {x = x} a b =
    let same : b.node ≡ a.node = (node_unique b.node a.node [] [] (append-nil (flat b.node) ∙ (sym b.events ∙ (a.events ∙ sym (append-nil (flat a.node)))))).0 in
    subst (λ z. Alike Anywhere x z) same b.alike

-- it is there as it was written
pub node_text : (house : Style) {t : List ℕ} {x y : Node} {q : ℕ} (follows : List ℕ) → Alike Anywhere x y → IsLineText (written house x) → Rest t q (written house x ++ follows)
    → (is_bracketed y ≡ true → Bracketed t q (q + length (written house x)) y) → QuotesWritten house t (flat y) → NodeText house t q y
node_text house {t} {x} {y} {q} follows alike line there flow quoted =
    let said : written house x ≡ written house y = same_written house alike in
    record {
      line = subst (λ w. IsLineText w) said line;
      follows = follows;
      there = subst (λ w. Rest t q (w ++ follows)) said there;
      flow = λ f. subst (λ w. Bracketed t q (q + length w) y) said (flow f);
      quoted = quoted;
    }

pub line_found : {t : List ℕ} {x : Node} {row : Row} {place q : ℕ} {cs : List CommentValue} {z : List ℕ} {mean : Meaning} (s : LayoutSetting) (margins : Margins) (ds : List Deco) (follows : List ℕ) → is_inline x ≡ true → written s.style x ≢ []
    → row.text ≡ written s.style x → row.column ≡ margins.column → row.body ≡ [] → is_some row.key_comment ≡ false → IsLineText (written s.style x) → Rest t q (written s.style x ++ follows)
    → ((y : Node) → mean.events ≡ flat y → is_bracketed y ≡ true → Bracketed t q (q + length (written s.style x)) y) → QuotesWritten s.style t mean.events → NodeAt t q (q + length (written s.style x)) mean → MeansTrees x mean → mean.comments ≡ []
    → LineEnd t (q + length (written s.style x)) place cs → texts cs ≡ carried_texts (first ds) → LineStart t place → Rest t place z → LineFound t s margins x (noting mean cs) row ds q place z
line_found {t} {x} {row} {place} {q} {cs} {z} {mean} s margins ds follows inline some text column body key line there flow quoted a b silent up is start w =
    let alike : Alike Anywhere x a.node = placed_node a b in
    let is_there : NodeIsAt t q (q + length (written s.style x)) a.node = node_upto a.is_there a.ends in
    let width : length (written s.style x) ≡ length row.text = ap length (sym text) in
    let here : NodeIsAt t q (q + length row.text) a.node = subst (λ k. NodeIsAt t q (q + k) a.node) width is_there in
    let p : PlacedRow = record { items = items_in a.node; leaves = leaves a.node; commented = false; column = row.column; from = q; upto = q + length row.text } in
    let same : (noting mean cs).comments ≡ cs = noting_comments mean cs ∙ ap (λ w. w ++ cs) silent in
    record {
      found_rows = p ∷ [];
      meant = found_noting cs (record {
        node = a.node;
        alike = alike;
        events = a.events;
        escapes = b.escapes;
        rows = line_rows (sym (same_inline alike) ∙ inline) (λ e. some (same_written s.style alike ∙ e)) refl refl refl here (omega arith) (omega arith) column (node_text s.style follows alike line there (λ f. flow a.node a.events f) (subst (λ es. QuotesWritten s.style t es) a.events quoted));
      });
      placed = subst (λ v. RowsIn t (row ∷ []) (p ∷ []) ds q v place z) (sym same) (last_row (record {
        from = refl;
        order = omega arith;
        size = λ e. refl;
        items = items_inside here;
        leaves = leaves_inside here;
        commented = key;
        bare = λ z. absurd (items_some s.style here (λ e. some (same_written s.style alike ∙ e)) z);
        column = refl;
      }) (record {
        ascend = subst (λ k. Ascend t (q + k) cs place) width (end_ascends up);
        is = is;
        start = start;
        tail = after_line body (subst (λ k. LineEnd t (q + k) place cs) width up) (leaves_end here);
      }) w);
    }
