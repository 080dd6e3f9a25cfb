-- In trees whose block collections have their entries at the columns of the layout, and whose block scalars have their
-- content that many columns in, nothing is misindented.
use Rattle.std.proofs.Common.{◌≡◌, ℕ, ◌+◌, ◌<◌, ⊎_elim, true, false, true≢false, List, [], ◌∷◌, Some, length, sym, ap, ◌∙◌, subst, arith}
use Rattle.std.specs.List.{Contains}
use Rattle.std.specs.Prelude.{slice_get}
use Rattle.std.proofs.lemmas.Option.{same_Some}
use Rattle.yf_lines.specs.Lines.{LinesBegunAt, PlaceOf, Table}
use Rattle.yf_lines.specs.declared.line.Line.{Line}
use Rattle.yf_props.specs.Props.{PropsValue}
use Rattle.yf_events.specs.declared.event.Entry.{Entry}
use Rattle.yf_events.specs.declared.event.ScalarStyle.{ScalarStyle}
use Rattle.yf_events.specs.declared.event.ScalarStyle.TheVariants.{Plain, Single, Double, Literal, Folded}
use Rattle.yf_events.specs.declared.event.Span.{Span}
use Rattle.yf_events.specs.Tree.{Node, scalar, alias, sequence, mapping, Items, no_items, item, Pairs, no_pairs, pair, DocumentTree, flat, flat_document, is_block_collection, standing}
use Rattle.yf_forms.specs.Nodes.ContentStart.{content_start}
use Rattle.yf_laws.specs.Layouts.ReadableTrees.{is_block_style as is_block}
use Rattle.yf_forms.specs.declared.style.Style.{Style}
use Rattle.yf_laws.proofs.OutputLines.FormattedLines.{formed, formed_are}
use Rattle.yf_laws.proofs.Columns.FormattedSet.{reading_set}
use Rattle.yf_laws.proofs.OutputLines.LaidLines.{line_text}
use Rattle.yf_laws.proofs.Columns.SetMeant.{BlockAt}
use Rattle.yf_laws.proofs.Columns.SetNodes.{Blockless, BlocklessItems, BlocklessPairs, ColumnAt, EntryOn, SetDocuments, no_set_documents, set_document, SetItems, no_set_items, set_item, SetNode, set_line, set_scalar, set_sequence, set_mapping, SetPairs, no_set_pairs, set_pair, SetValue, beside, inside, Unquestioned, value_set as value_here}
use Rattle.yf_rule_sets.specs.RuleSets.Indents.{EntriesAt, ImplicitValue, IndentFault, WantedColumn, WantedIndent, WithoutMark}
use Rattle.yf_rule_sets.specs.RuleSets.Indents.EntriesAt.{at_first}
use Rattle.yf_rule_sets.specs.RuleSets.Indents.IndentFault.{entries, content}
use Rattle.yf_rule_sets.specs.RuleSets.Indents.WantedColumn.{of_root, further, at_key}
use Rattle.yf_rule_sets.specs.RuleSets.Indents.WantedIndent.{at_root, in_entry}
use Rattle.yf_rule_sets.specs.RuleSets.Indents.WithoutMark.{no_mark}
use Rattle.yf_rule_sets.specs.RuleSets.Nodes.{IsChildOf, NumberedNode, NumberedPair, IsNodeOf, items_from, pairs_from, roots_from}
use Rattle.yf_rule_sets.specs.RuleSets.Nodes.IsChildOf.{as_item, as_key, as_value}
use Rattle.yf_rule_sets.specs.RuleSets.Nodes.IsNodeOf.{is_root, is_inner}
use Rattle.yf_rule_sets.specs.RuleSets.Scalars.{BlockContent, is_block_style}
use Rattle.yf_laws.specs.Mended.{FormatsAreMended}
use Rattle.yf_rule_sets.specs.Rules.{indentation}
use Rattle.yf_rule_sets.proofs.RuleSets.KeySetLemmas.{head_or_later, nothing_in}
use Rattle.yf_laws.proofs.Formatted.MendedColumns.{column_place}
use Rattle.yf_laws.proofs.Formatted.MendedLines.{exactly_none}
use Rattle.yf_laws.proofs.Formatted.MendedScalarIndents.{content_is_at}

block_there : (style : ScalarStyle) → is_block_style style ≡ true → is_block style ≡ true
block_there Plain e = e
block_there Single e = e
block_there Double e = e
block_there Literal e = e
block_there Folded e = e

-- Nodes on one line.

line_item : (i : ℕ) (xs : Items) (y : NumberedNode) → BlocklessItems xs → Contains (items_from i xs) y → Blockless y.1
line_item i no_items y a q = absurd (nothing_in y q)
line_item i (item x xs) y a q =
    ⊎_elim (λ (e : ◌≡◌ {A = NumberedNode} (i, x) y). subst (λ z. Blockless z) (ap (λ (p : NumberedNode). p.1) e) a.0)
    (λ (l : Contains (items_from (i + length (flat x)) xs) y). line_item (i + length (flat x)) xs y a.1 l)
    (head_or_later (i, x) (items_from (i + length (flat x)) xs) y q)

line_pair : (i : ℕ) (ps : Pairs) (k v : NumberedNode) → BlocklessPairs ps → Contains (pairs_from i ps) (k, v) → Blockless k.1 × Blockless v.1
line_pair i no_pairs k v a q = absurd (nothing_in (k, v) q)
line_pair i (pair x y ps) k v a q =
    let j = i + length (flat x) in
    ⊎_elim (λ (e : ◌≡◌ {A = NumberedPair} ((i, x), (j, y)) (k, v)).
    (subst (λ z. Blockless z) (ap (λ (p : NumberedPair). p.0.1) e) a.0, subst (λ z. Blockless z) (ap (λ (p : NumberedPair). p.1.1) e) a.1.0))
    (λ (l : Contains (pairs_from (j + length (flat y)) ps) (k, v)). line_pair (j + length (flat y)) ps k v a.1.1 l)
    (head_or_later ((i, x), (j, y)) (pairs_from (j + length (flat y)) ps) (k, v) q)

line_inner : (i : ℕ) (x : Node) (y : NumberedNode) → Blockless x → IsChildOf (i, x) y → Blockless y.1
line_inner i (scalar at props style text lines) y b (as_item q) = absurd (nothing_in y q)
line_inner i (scalar at props style text lines) y b (as_key {v = v} q) = absurd (nothing_in (y, v) q)
line_inner i (scalar at props style text lines) y b (as_value {k = k} q) = absurd (nothing_in (k, y) q)
line_inner i (alias at name) y b (as_item q) = absurd (nothing_in y q)
line_inner i (alias at name) y b (as_key {v = v} q) = absurd (nothing_in (y, v) q)
line_inner i (alias at name) y b (as_value {k = k} q) = absurd (nothing_in (k, y) q)
line_inner i (sequence at flow props xs) y b (as_item q) = line_item (i + 1) xs y b.1 q
line_inner i (sequence at flow props xs) y b (as_key {v = v} q) = absurd (nothing_in (y, v) q)
line_inner i (sequence at flow props xs) y b (as_value {k = k} q) = absurd (nothing_in (k, y) q)
line_inner i (mapping at flow props ps) y b (as_item q) = absurd (nothing_in y q)
line_inner i (mapping at flow props ps) y b (as_key {v = v} q) = (line_pair (i + 1) ps y v b.1 q).0
line_inner i (mapping at flow props ps) y b (as_value {k = k} q) = (line_pair (i + 1) ps k y b.1 q).1

not_block : (x : Node) → Blockless x → is_block_collection x ≡ true → ⊥
not_block (scalar at props style text lines) b e = true≢false (sym e)
not_block (alias at name) b e = true≢false (sym e)
not_block (sequence at true props no_items) b e = true≢false (sym e)
not_block (sequence at true props (item x xs)) b e = true≢false (sym e)
not_block (sequence at false props xs) b e = true≢false (sym b.0)
not_block (mapping at true props no_pairs) b e = true≢false (sym e)
not_block (mapping at true props (pair k v ps)) b e = true≢false (sym e)
not_block (mapping at false props ps) b e = true≢false (sym b.0)

-- Columns and marks.

block_of : {src : Table} {x : Node} {column start : ℕ} → EntriesAt src x column start → is_block_collection x ≡ true
block_of (at_first e f g h p) = e

unmarked_by : {src : Table} {k : Node} → Unquestioned src.text k → WithoutMark src k
unmarked_by a = no_mark a.is (λ w. a.none w.sign w.white)

questioned_by : {src : Table} {k : Node} → WithoutMark src k → Unquestioned src.text k
questioned_by (no_mark {entry = entry} e n) = record { entry = entry; is = e; none = λ f g. n (record { sign = f; white = g }) }

module _ (src : Table) (s : Style) (trees : List DocumentTree) (Content : ℕ → Node → Type 0) (right : (m o line c : ℕ) → ColumnAt src.text m o → PlaceOf src.text o line c → c ≡ m + 1) where
  first_column : {m : ℕ} (f : Node) (column line : ℕ) (first : Node) (entry : Entry) → EntryOn src.text m f → Some f ≡ Some first → (standing first).entry ≡ Some entry → PlaceOf src.text entry.start line (column + 1)
      → column ≡ m
  first_column {m} f column line first entry e same g p =
      let one : e.entry ≡ entry = same_Some _ _ (sym e.is ∙ (ap (λ x. (standing x).entry) (same_Some _ _ same) ∙ g)) in
      let q = right m entry.start line (column + 1) (subst (λ (v : Entry). ColumnAt src.text m v.start) one e.column) p in
      omega (arith, q)

  abbrev SetAt : ℕ → ℕ → Node → Type 0
  SetAt m l x = SetNode src.text s Content m l x

  -- What nodes hold.

  item_set : {m : ℕ} (i : ℕ) (xs : Items) (y : NumberedNode) → SetItems src.text s Content m xs → Contains (items_from i xs) y → SetAt (m + s.indent) (m + s.indent) y.1
  item_set i no_items y no_set_items q = absurd (nothing_in y q)
  item_set {m} i (item x xs) y (set_item o a more) q =
      ⊎_elim (λ (e : ◌≡◌ {A = NumberedNode} (i, x) y). subst (λ z. SetAt (m + s.indent) (m + s.indent) z) (ap (λ (p : NumberedNode). p.1) e) a)
      (λ (l : Contains (items_from (i + length (flat x)) xs) y). item_set (i + length (flat x)) xs y more l)
      (head_or_later (i, x) (items_from (i + length (flat x)) xs) y q)

  key_set : {m : ℕ} (i : ℕ) (ps : Pairs) (k v : NumberedNode) → SetPairs src.text s Content m ps → Contains (pairs_from i ps) (k, v) → SetAt (m + s.indent) (m + s.indent) k.1
  key_set i no_pairs k v no_set_pairs q = absurd (nothing_in (k, v) q)
  key_set {m} i (pair x y ps) k v (set_pair o free marked a b more) q =
      let j = i + length (flat x) in
      ⊎_elim (λ (e : ◌≡◌ {A = NumberedPair} ((i, x), (j, y)) (k, v)). subst (λ z. SetAt (m + s.indent) (m + s.indent) z) (ap (λ (p : NumberedPair). p.0.1) e) a)
      (λ (l : Contains (pairs_from (j + length (flat y)) ps) (k, v)). key_set (j + length (flat y)) ps k v more l)
      (head_or_later ((i, x), (j, y)) (pairs_from (j + length (flat y)) ps) (k, v) q)

  value_set : {m : ℕ} (i : ℕ) (ps : Pairs) (k v : NumberedNode) → SetPairs src.text s Content m ps → Contains (pairs_from i ps) (k, v) → SetValue src.text s Content m k.1 v.1
  value_set i no_pairs k v no_set_pairs q = absurd (nothing_in (k, v) q)
  value_set {m} i (pair x y ps) k v (set_pair o free marked a b more) q =
      let j = i + length (flat x) in
      ⊎_elim (λ (e : ◌≡◌ {A = NumberedPair} ((i, x), (j, y)) (k, v)).
      subst (λ z. SetValue src.text s Content m k.1 z) (ap (λ (p : NumberedPair). p.1.1) e) (subst (λ z. SetValue src.text s Content m z y) (ap (λ (p : NumberedPair). p.0.1) e) (value_here free marked b)))
      (λ (l : Contains (pairs_from (j + length (flat y)) ps) (k, v)). value_set (j + length (flat y)) ps k v more l)
      (head_or_later ((i, x), (j, y)) (pairs_from (j + length (flat y)) ps) (k, v) q)

  -- Nodes by themselves.

  record IsSet (x : Node) : Type 0 where
    pub column : ℕ
    pub lines : ℕ
    pub set : SetAt column lines x

  line_set : {x : Node} → Blockless x → IsSet x
  line_set b = record { column = 0; lines = 0; set = set_line b }

  of_value : {m : ℕ} {k v : Node} → SetValue src.text s Content m k v → IsSet v
  of_value {m} (beside f g h n a) = record { column = m; lines = m + s.indent; set = a }
  of_value {m} (inside n a) = record { column = m + s.indent; lines = m + s.indent; set = a }

  inner_set : {m l : ℕ} (i : ℕ) (x : Node) (y : NumberedNode) → SetAt m l x → IsChildOf (i, x) y → IsSet y.1
  inner_set i x y (set_line b) h = line_set (line_inner i x y b h)
  inner_set i x y (set_scalar f c) (as_item q) = absurd (nothing_in y q)
  inner_set i x y (set_scalar f c) (as_key {v = v} q) = absurd (nothing_in (y, v) q)
  inner_set i x y (set_scalar f c) (as_value {k = k} q) = absurd (nothing_in (k, y) q)
  inner_set {m} i x y (set_sequence {x = z} {xs = xs} e a) (as_item q) = record { column = m + s.indent; lines = m + s.indent; set = item_set (i + 1) (item z xs) y a q }
  inner_set i x y (set_sequence e a) (as_key {v = v} q) = absurd (nothing_in (y, v) q)
  inner_set i x y (set_sequence e a) (as_value {k = k} q) = absurd (nothing_in (k, y) q)
  inner_set i x y (set_mapping e a) (as_item q) = absurd (nothing_in y q)
  inner_set {m} i x y (set_mapping {k = f} {v = g} {ps = ps} e a) (as_key {v = v} q) =
      record { column = m + s.indent; lines = m + s.indent; set = key_set (i + 1) (pair f g ps) y v a q }
  inner_set i x y (set_mapping {k = f} {v = g} {ps = ps} e a) (as_value {k = k} q) = of_value (value_set (i + 1) (pair f g ps) k y a q)

  root_set : (i : ℕ) (ds : List DocumentTree) (y : NumberedNode) → SetDocuments src.text s Content ds → Contains (roots_from i ds) y → SetAt 0 s.indent y.1
  root_set i [] y no_set_documents q = absurd (nothing_in y q)
  root_set i (d ∷ ds) y (set_document a more) q =
      ⊎_elim (λ (e : ◌≡◌ {A = NumberedNode} (i + 1, d.root) y). subst (λ z. SetAt 0 s.indent z) (ap (λ (p : NumberedNode). p.1) e) a)
      (λ (l : Contains (roots_from (i + length (flat_document d)) ds) y). root_set (i + length (flat_document d)) ds y more l)
      (head_or_later (i + 1, d.root) (roots_from (i + length (flat_document d)) ds) y q)

  is_at_set : (x : NumberedNode) → SetDocuments src.text s Content trees → IsNodeOf trees x → IsSet x.1
  is_at_set x w (is_root q) = record { column = 0; lines = s.indent; set = root_set 1 trees x w q }
  is_at_set y w (is_inner {x = x} a h) = inner_set x.0 x.1 y (is_at_set x w a).set h

  -- Columns.

  column_is : {m l column start : ℕ} (x : Node) → SetAt m l x → EntriesAt src x column start → column ≡ m
  column_is x (set_line b) (at_first e f g h p) = absurd (not_block x b e)
  column_is x (set_scalar f c) (at_first e g h i p) = absurd (true≢false (sym e))
  column_is {column = column} x (set_sequence {x = z} o a) (at_first {first = first} {entry = entry} {line = line} e f g h p) = first_column z column line first entry o f g p
  column_is {column = column} x (set_mapping {k = z} o a) (at_first {first = first} {entry = entry} {line = line} e f g h p) = first_column z column line first entry o f g p

  further_set : {m l : ℕ} (i : ℕ) (x : Node) (y : NumberedNode) → SetAt m l x → is_block_collection x ≡ true → is_block_collection y.1 ≡ true → IsChildOf (i, x) y
      → (s.seq_indent ≡ false → ImplicitValue src (i, x) y → ⊥) → (n : ℕ) × SetAt (m + s.indent) n y.1
  further_set i x y (set_line b) e g h n = absurd (not_block x b e)
  further_set i x y (set_scalar f c) e g h n = absurd (true≢false (sym e))
  further_set {m} i x y (set_sequence {x = z} {xs = xs} o a) e g (as_item q) n = (m + s.indent, item_set (i + 1) (item z xs) y a q)
  further_set i x y (set_sequence o a) e g (as_key {v = v} q) n = absurd (nothing_in (y, v) q)
  further_set i x y (set_sequence o a) e g (as_value {k = k} q) n = absurd (nothing_in (k, y) q)
  further_set i x y (set_mapping o a) e g (as_item q) n = absurd (nothing_in y q)
  further_set {m} i x y (set_mapping {k = f} {v = z} {ps = ps} o a) e g (as_key {v = v} q) n = (m + s.indent, key_set (i + 1) (pair f z ps) y v a q)
  further_set {m} i x y (set_mapping {k = f} {v = z} {ps = ps} o a) e g (as_value {k = k} q) n = by (value_set (i + 1) (pair f z ps) k y a q) where
    by : SetValue src.text s Content m k.1 y.1 → (n : ℕ) × SetAt (m + s.indent) n y.1
    by (beside off block seq mark b) = absurd (n off (record { key = k; in_mapping = q; of_block = e; is_block = g; is_sequence = seq; without_mark = unmarked_by mark }))
    by (inside w b) = (m + s.indent, b)

  beside_set : {m l : ℕ} (i : ℕ) (x : Node) (y : NumberedNode) → SetAt m l x → s.seq_indent ≡ false → ImplicitValue src (i, x) y → (n : ℕ) × SetAt m n y.1
  beside_set i x y (set_line b) off v = absurd (not_block x b v.of_block)
  beside_set i x y (set_scalar f c) off v = absurd (true≢false (sym v.of_block))
  beside_set i x y (set_sequence o a) off v = absurd (nothing_in (v.key, y) v.in_mapping)
  beside_set {m} i x y (set_mapping {k = f} {v = z} {ps = ps} o a) off v = by (value_set (i + 1) (pair f z ps) v.key y a v.in_mapping) where
    by : SetValue src.text s Content m v.key.1 y.1 → (n : ℕ) × SetAt m n y.1
    by (beside w block seq mark b) = (m + s.indent, b)
    by (inside w b) = absurd (w off v.is_block v.is_sequence (questioned_by v.without_mark))

  lines_set : {m l : ℕ} (i : ℕ) (x : Node) (y : NumberedNode) → SetAt m l x → is_block_collection x ≡ true → IsChildOf (i, x) y → (n : ℕ) × SetAt n (m + s.indent) y.1
  lines_set i x y (set_line b) e h = absurd (not_block x b e)
  lines_set i x y (set_scalar f c) e h = absurd (true≢false (sym e))
  lines_set {m} i x y (set_sequence {x = z} {xs = xs} o a) e (as_item q) = (m + s.indent, item_set (i + 1) (item z xs) y a q)
  lines_set i x y (set_sequence o a) e (as_key {v = v} q) = absurd (nothing_in (y, v) q)
  lines_set i x y (set_sequence o a) e (as_value {k = k} q) = absurd (nothing_in (k, y) q)
  lines_set i x y (set_mapping o a) e (as_item q) = absurd (nothing_in y q)
  lines_set {m} i x y (set_mapping {k = f} {v = z} {ps = ps} o a) e (as_key {v = v} q) = (m + s.indent, key_set (i + 1) (pair f z ps) y v a q)
  lines_set {m} i x y (set_mapping {k = f} {v = z} {ps = ps} o a) e (as_value {k = k} q) = by (value_set (i + 1) (pair f z ps) k y a q) where
    by : SetValue src.text s Content m k.1 y.1 → (n : ℕ) × SetAt n (m + s.indent) y.1
    by (beside off block seq mark b) = (m, b)
    by (inside w b) = (m + s.indent, b)

  -- Wanted columns.

  entries_right : {column wanted start : ℕ} (y : NumberedNode) → SetDocuments src.text s Content trees → EntriesAt src y.1 column start → WantedColumn src s trees y wanted → column ≡ wanted
  entries_right y w e (of_root q) = column_is y.1 (root_set 1 trees y w q) e
  entries_right y w e (further {x = x} {column = outer} a h f n) =
      let holder = is_at_set x w a in
      let there = further_set x.0 x.1 y holder.set (block_of f) (block_of e) h n in
      let one = column_is x.1 holder.set f in
      column_is y.1 there.1 e ∙ ap (λ k. k + s.indent) (sym one)
  entries_right y w e (at_key {x = x} a off v f) =
      let holder = is_at_set x w a in
      let there = beside_set x.0 x.1 y holder.set off v in
      column_is y.1 there.1 e ∙ sym (column_is x.1 holder.set f)

  -- Content of block scalars; Content gives its column.
  module _ (is_there : (l : ℕ) (x : Node) (props : PropsValue) (style : ScalarStyle) (text : List ℕ) (lines : List (List ℕ)) (span : Span) (follows first indent : ℕ) → Content l x
      → x ≡ scalar (standing x) props style text lines → (standing x).span ≡ Some span → LinesBegunAt src.lines (content_start src.text span props) follows
      → BlockContent src.lines text follows first indent → indent ≡ l) where
    content_at : {m l : ℕ} (x : Node) {props : PropsValue} {style : ScalarStyle} {text : List ℕ} {lines : List (List ℕ)} {span : Span} {follows first indent : ℕ} → SetAt m l x
        → x ≡ scalar (standing x) props style text lines → (standing x).span ≡ Some span → is_block_style style ≡ true → LinesBegunAt src.lines (content_start src.text span props) follows
        → BlockContent src.lines text follows first indent → indent ≡ l
    content_at x {style = style} (set_line b) e f block begun c =
        absurd (true≢false (sym (block_there style block) ∙ subst (λ z. Blockless z) e b))
    content_at {l = l} x {props = props} {style = style} {text = text} {lines = lines} {span = span} {follows = follows} {first = first} {indent = indent} (set_scalar g a) e f block begun c =
        is_there l x props style text lines span follows first indent a e f begun c
    content_at x (set_sequence o a) e f block begun c = absurd cc
    content_at x (set_mapping o a) e f block begun c = absurd cc

    wanted_right : {wanted : ℕ} (y : NumberedNode) → SetDocuments src.text s Content trees → WantedIndent src s trees y wanted → (n : ℕ) × SetAt n wanted y.1
    wanted_right y w (at_root q) = (0, root_set 1 trees y w q)
    wanted_right y w (in_entry {x = x} a h f) =
        let holder = is_at_set x w a in
        let there = lines_set x.0 x.1 y holder.set (block_of f) h in
        (there.0, subst (λ k. SetAt there.0 (k + s.indent) y.1) (sym (column_is x.1 holder.set f)) there.1)

    pub none_misindented : (i o : ℕ) → SetDocuments src.text s Content trees → IndentFault src s trees i o → ⊥
    none_misindented i o w (entries {y = y} a same e wanted n) = n (entries_right y w e wanted)
    none_misindented i o w (content {y = y} a same e f block begun c wanted n) =
        let there = wanted_right y w wanted in n (content_at y.1 there.1 e f block begun c)

-- The law.

pub indentation_mended : FormatsAreMended indentation
indentation_mended fixable src r s w offsets e =
    let a = formed w.utf8 w.formats in
    let set = reading_set w.utf8 w.formats w.reads in
    let broken : (k : ℕ) (l : Line) → slice_get src.lines k ≡ Some l → l.end < l.next = λ k l q. let next = (line_text k l (formed_are src.lines w.formats a w.lines) q).is.next in omega (arith, next) in
    exactly_none offsets
    (λ i o m. none_misindented src s set.trees (BlockAt src.text) (λ m o line c at p. column_place a.utf8 at w.lines broken p)
    (λ l x props style text lines span follows first indent b f g begun c. content_is_at src a.utf8 w.lines l x props style text lines span follows first indent b f g begun c) i o set.set m)
    (e set.trees set.of_reading)
