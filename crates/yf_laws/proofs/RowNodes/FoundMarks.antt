-- The rows of a found node have the items and leaves that are found on the rows of the text.
use Rattle.std.proofs.Common.{◌≡◌, ◌≢◌, ℕ, ◌+◌, ◌-◌, Bool, true, false, List, [], ◌∷◌, ◌++◌, map, codes, Option, Some, None, refl, sym, ap, ◌∙◌, true≢false}
use Rattle.std.specs.Prelude.{is_some, if◌then◌else◌}
use Rattle.std.proofs.lemmas.List.{map-append}
use Rattle.yf_comments.specs.Comment.{CommentValue}
use Rattle.yf_props.specs.Props.{PropsValue}
use Rattle.yf_events.specs.declared.event.Span.{Span}
use Rattle.yf_events.specs.Tree.{Node, NodeOffsets, sequence, mapping, Items, Pairs, items_in, leaves, is_block_collection}
use Rattle.yf_forms.specs.declared.style.Style.{Style}
use Rattle.yf_laws.specs.Preservation.AlikeBlocks.{AlikeBlocks, alike_lines, alike_block_sequences, alike_block_mappings, AlikeBlockItems, no_block_items, block_item, AlikeBlockPairs, no_block_pairs, block_pair}
use Rattle.yf_forms.specs.NormalForms.Normal.{LayoutSetting, Margins, inner_margins, is_implicit, key_comment, key_margins, value_entries, value_of_implicit, value_margins}
use Rattle.yf_forms.specs.Nodes.OneLine.{props_text, written}
use Rattle.yf_laws.specs.Layouts.RowShapes.{KeysAgree}
use Rattle.yf_print.specs.Layouts.Rows.{Row, after_key, after_sign, colon_row, entry_row, explicit_pair, implicit_pair, joined, key_row, one_line_row, pair_rows as rows_of_pair, props_row, rows, rows_of_items, rows_of_pairs}
use Rattle.yf_forms.specs.Nodes.Lines.{is_empty_text}
use Rattle.yf_laws.proofs.SecondRun.AlikeLemmas.{same_block, same_implicit, same_value_entries, setting}
use Rattle.yf_laws.proofs.SecondRun.FixedBlocks.{blocks_alike}
use Rattle.yf_laws.proofs.RowNodes.FoundNodes.{SignRows, sign_alone, sign_joined, KeyRows, key_commented, key_above, key_alone, key_joined, NodeRows, no_rows, line_rows, scalar_rows, sequence_rows, sequence_after, mapping_rows, mapping_after, ItemsRows, no_item_rows, item_rows, PairRows, explicit_rows, implicit_rows, PairsRows, no_pair_rows, pair_rows}
use Rattle.yf_laws.proofs.RowNodes.PlacedRows.{PlacedRow}
use Rattle.yf_laws.proofs.Derived.ScalarsMade.{scalar_rows_are}
use Rattle.yf_laws.proofs.Derived.TreesMade.{inline_rows}

abbrev pub Mark : Type 0
Mark = List ℕ × List Span

abbrev pub marks : List Row → List Mark
marks rs = map (λ r. (r.items, r.leaves)) rs

abbrev pub placed_marks : List PlacedRow → List Mark
placed_marks ps = map (λ p. (p.items, p.leaves)) ps

both_marks : {a b : List ℕ} {c d : List Span} (rest : List Mark) → a ≡ b → c ≡ d → (a, c) ∷ rest ≡ (b, d) ∷ rest
both_marks {b = b} {c = c} rest e f = ap (λ z. (z, c) ∷ rest) e ∙ ap (λ z. (b, z) ∷ rest) f

abbrev first_mark : Mark → List Mark → Mark
first_mark other [] = other
first_mark other (m ∷ ms) = m

abbrev other_marks : List Mark → List Mark
other_marks [] = []
other_marks (m ∷ ms) = ms

marks_join : (xs ys : List Row) (ps qs : List PlacedRow) → marks xs ≡ placed_marks ps → marks ys ≡ placed_marks qs → marks (xs ++ ys) ≡ placed_marks (ps ++ qs)
marks_join xs ys ps qs e f =
    map-append (λ (r : Row). (r.items, r.leaves)) xs ys ∙ (ap (λ z. z ++ marks ys) e ∙ (ap (λ z. placed_marks ps ++ z) f
    ∙ sym (map-append (λ (p : PlacedRow). (p.items, p.leaves)) ps qs)))

-- after a sign
sign_marks : {t : List ℕ} {items : List ℕ} {ps hs : List PlacedRow} (head : Row) (n : ℕ) (rs : List Row) → head.items ≡ items → head.leaves ≡ [] → SignRows t items ps hs → marks rs ≡ placed_marks ps
    → marks (joined head n rs) ≡ placed_marks hs
sign_marks head n [] e f (sign_alone a b c w) m = both_marks [] (e ∙ sym a) (f ∙ sym b)
sign_marks head n (r ∷ rs) e f (sign_alone a b c w) m = absurd cc
sign_marks head n [] e f (sign_joined a b c l k o w) m = absurd cc
sign_marks {items = items} head n (r ∷ rs) e f (sign_joined {h = h} {p = p} {ps = ps} a b c l k o w) m =
    let one : (r.items, r.leaves) ≡ (p.items, p.leaves) = ap (first_mark (r.items, r.leaves)) m in
    both_marks (marks rs) (ap (λ z. z ++ r.items) e ∙ (ap (λ z. items ++ z.0) one ∙ sym a)) (ap (λ z. z ++ r.leaves) f ∙ (ap (λ z. z.1) one ∙ sym b)) ∙ ap (λ z. (h.items, h.leaves) ∷ z) (ap other_marks m)

-- after a key
key_marks : {t : List ℕ} {items : List ℕ} {ls : List Span} {b below : Bool} {ps hs : List PlacedRow} (head : Row) (o : Option CommentValue) (rs : List Row) → head.items ≡ items → head.leaves ≡ ls → is_some o ≡ b
    → KeyRows t items ls b below ps hs → marks rs ≡ placed_marks ps → marks (after_key head o below rs) ≡ placed_marks hs
key_marks head None rs e f g (key_commented a b c) m = absurd (true≢false (sym g))
key_marks head (Some d) rs e f g (key_commented {h = h} a b c) m = both_marks (marks rs) (e ∙ sym a) (f ∙ sym b) ∙ ap (λ z. (h.items, h.leaves) ∷ z) m
key_marks head None rs e f g (key_above {h = h} a b c) m = both_marks (marks rs) (e ∙ sym a) (f ∙ sym b) ∙ ap (λ z. (h.items, h.leaves) ∷ z) m
key_marks head (Some d) rs e f g (key_above a b c) m = absurd (true≢false g)
key_marks head None [] e f g (key_alone a b c) m = both_marks [] (e ∙ sym a) (f ∙ sym b)
key_marks head None (r ∷ rs) e f g (key_alone a b c) m = absurd cc
key_marks head (Some d) rs e f g (key_alone a b c) m = absurd (true≢false g)
key_marks head None [] e f g (key_joined a b c l k o) m = absurd cc
key_marks {items = items} {ls = ls} head None (r ∷ rs) e f g (key_joined {h = h} {p = p} {ps = ps} a b c l k o) m =
    let one : (r.items, r.leaves) ≡ (p.items, p.leaves) = ap (first_mark (r.items, r.leaves)) m in
    both_marks (marks rs) (ap (λ z. z ++ r.items) e ∙ (ap (λ z. items ++ z.0) one ∙ sym a)) (ap (λ z. z ++ r.leaves) f ∙ (ap (λ z. ls ++ z.1) one ∙ sym b)) ∙ ap (λ z. (h.items, h.leaves) ∷ z) (ap other_marks m)
key_marks head (Some d) rs e f g (key_joined a b c l k o) m = absurd (true≢false g)

-- Trees.

line_marks : (column : ℕ) (y : Node) (w : List ℕ) (p : PlacedRow) → w ≢ [] → p.items ≡ items_in y → p.leaves ≡ leaves y → marks (one_line_row column y w) ≡ placed_marks (p ∷ [])
line_marks column y [] p n e f = absurd (n refl)
line_marks column y (b ∷ w) p n e f = both_marks [] (sym e) (sym f)

pub no_props_marks : (column : ℕ) (w : List ℕ) → is_empty_text w ≡ true → props_row column w ≡ []
no_props_marks column [] e = refl
no_props_marks column (b ∷ w) e = absurd (true≢false (sym e))

props_marks : (column : ℕ) (w : List ℕ) (p : PlacedRow) → is_empty_text w ≡ false → p.items ≡ [] → p.leaves ≡ [] → marks (props_row column w) ≡ placed_marks (p ∷ [])
props_marks column [] p n e f = absurd (true≢false n)
props_marks column (b ∷ w) p n e f = both_marks [] (sym e) (sym f)

pub sequence_blocks : {s : Style} {cs ds : List CommentValue} {at bt : NodeOffsets} {f g : Bool} {p r : PropsValue} {xs ys : Items} → AlikeBlocks s cs ds (sequence at f p xs) (sequence bt g r ys)
    → is_block_collection (sequence bt g r ys) ≡ true → AlikeBlockItems s cs ds xs ys
sequence_blocks (alike_lines a e) n = absurd (true≢false (sym n ∙ (sym (same_block a) ∙ e)))
sequence_blocks (alike_block_sequences e a) n = a

pub mapping_blocks : {s : Style} {cs ds : List CommentValue} {at bt : NodeOffsets} {f g : Bool} {p r : PropsValue} {ps qs : Pairs} → AlikeBlocks s cs ds (mapping at f p ps) (mapping bt g r qs)
    → is_block_collection (mapping bt g r qs) ≡ true → AlikeBlockPairs s cs ds ps qs
mapping_blocks (alike_lines a e) n = absurd (true≢false (sym n ∙ (sym (same_block a) ∙ e)))
mapping_blocks (alike_block_mappings e a) n = a

mutual
  pub node_marks : {t : List ℕ} {c : LayoutSetting} {at : Margins} {x y : Node} {ps : List PlacedRow} (cs : List CommentValue) (margins : Margins) → margins.entries ≡ at.entries → AlikeBlocks c.style c.comments cs x y → NodeRows t c at x y ps
      → marks (rows (setting c.style cs) margins y) ≡ placed_marks ps
  node_marks cs margins e a (no_rows f) = refl
  node_marks {c = c} cs margins e a (line_rows {y = y} {p = p} f n g h i st k l o w) =
      ap marks (inline_rows (setting c.style cs) margins y f) ∙ line_marks margins.column y (written c.style y) p n g h
  node_marks {c = c} cs margins e a (scalar_rows {at = at} {props = props} {style = style} {text = text} {lines = lines} f n g h i) =
      ap marks (scalar_rows_are (setting c.style cs) margins at props text lines style f) ∙ both_marks [] (sym g) (sym h)
  node_marks {c = c} cs margins e a (sequence_rows {props = props} {ys = ys} n f r) =
      ap (λ z. marks (z ++ rows_of_items (setting c.style cs) margins.entries ys)) (no_props_marks margins.column (props_text props) f) ∙ items_marks cs margins.entries e (sequence_blocks a n) r
  node_marks {c = c} cs margins e a (sequence_after {props = props} {ys = ys} {p = p} {ps = ps} n f g h i r) =
      marks_join (props_row margins.column (props_text props)) (rows_of_items (setting c.style cs) margins.entries ys) (p ∷ []) ps (props_marks margins.column (props_text props) p f g h)
      (items_marks cs margins.entries e (sequence_blocks a n) r)
  node_marks {c = c} cs margins e a (mapping_rows {props = props} {ys = ys} n f r) =
      ap (λ z. marks (z ++ rows_of_pairs (setting c.style cs) margins.entries ys)) (no_props_marks margins.column (props_text props) f) ∙ pairs_marks cs margins.entries e (mapping_blocks a n) r
  node_marks {c = c} cs margins e a (mapping_after {props = props} {ys = ys} {p = p} {ps = ps} n f g h i r) =
      marks_join (props_row margins.column (props_text props)) (rows_of_pairs (setting c.style cs) margins.entries ys) (p ∷ []) ps (props_marks margins.column (props_text props) p f g h)
      (pairs_marks cs margins.entries e (mapping_blocks a n) r)

  items_marks : {t : List ℕ} {c : LayoutSetting} {m : ℕ} {xs ys : Items} {ps : List PlacedRow} (cs : List CommentValue) (column : ℕ) → column ≡ m → AlikeBlockItems c.style c.comments cs xs ys → ItemsRows t c m xs ys ps
      → marks (rows_of_items (setting c.style cs) column ys) ≡ placed_marks ps
  items_marks cs column e no_block_items no_item_rows = refl
  items_marks {c = c} cs column e (block_item a b) (item_rows {y = y} {ys = ys} {hs = hs} {qs = qs} r s more) =
      marks_join (after_sign c.style (entry_row column (codes "-") y) (rows (setting c.style cs) (inner_margins c.style column) y)) (rows_of_items (setting c.style cs) column ys) hs qs
      (sign_marks (entry_row column (codes "-") y) (c.style.indent - 1) _ refl refl s (node_marks cs (inner_margins c.style column) (ap (λ z. z + c.style.indent) e) a r))
      (items_marks cs column e b more)

  pair_marks : {t : List ℕ} {c : LayoutSetting} {m : ℕ} {k v l w : Node} {ps : List PlacedRow} (cs : List CommentValue) (column : ℕ) → column ≡ m → AlikeBlocks c.style c.comments cs k l
      → AlikeBlocks c.style c.comments cs v w → KeysAgree c.style c.comments cs k v l w → PairRows t c m k v l w ps
      → marks (rows_of_pair (setting c.style cs) column l w (rows (setting c.style cs) (key_margins c.style column l) l) (rows (setting c.style cs) (value_margins (setting c.style cs) column l w) w)) ≡ placed_marks ps
  pair_marks {c = c} {l = l} {w = w} cs column e a b g (explicit_rows {hs = hs} {gs = gs} n r s d f) =
      let here : is_implicit c.style column l ≡ false = ap (λ z. is_implicit c.style z l) e ∙ n in
      let margins : (value_margins (setting c.style cs) column l w).entries ≡ column + c.style.indent =
      ap (λ z. (if z then value_of_implicit (setting c.style cs) column l w else inner_margins c.style column).entries) here in
      ap (λ z. marks (if z then implicit_pair (setting c.style cs) column l w (rows (setting c.style cs) (value_margins (setting c.style cs) column l w) w)
      else explicit_pair c.style column l (rows (setting c.style cs) (key_margins c.style column l) l) (rows (setting c.style cs) (value_margins (setting c.style cs) column l w) w))) here
      ∙ marks_join (after_sign c.style (entry_row column (codes "?") l) _) (after_sign c.style (colon_row column l) _) hs gs
      (sign_marks (entry_row column (codes "?") l) (c.style.indent - 1) _ refl refl s (node_marks cs (key_margins c.style column l) (ap (λ z. z + c.style.indent) e) a r))
      (sign_marks (colon_row column l) (c.style.indent - 1) _ refl refl f (node_marks cs (value_margins (setting c.style cs) column l w) (margins ∙ ap (λ z. z + c.style.indent) e) b d))
  pair_marks {c = c} {m = m} {k = k} {l = l} {w = w} cs column e a b g (implicit_rows flag q n on d f) =
      let here : is_implicit c.style column l ≡ true = ap (λ z. is_implicit c.style z l) e ∙ n in
      let margins : (value_margins (setting c.style cs) column l w).entries ≡ value_entries c.style column w =
      ap (λ z. (if z then value_of_implicit (setting c.style cs) column l w else inner_margins c.style column).entries) here in
      let told : is_some (key_comment cs l w) ≡ flag = sym (g.comment column (same_implicit c.style column (blocks_alike a) ∙ here)) ∙ sym q in
      ap (λ z. marks (if z then implicit_pair (setting c.style cs) column l w (rows (setting c.style cs) (value_margins (setting c.style cs) column l w) w)
      else explicit_pair c.style column l (rows (setting c.style cs) (key_margins c.style column l) l) (rows (setting c.style cs) (value_margins (setting c.style cs) column l w) w))) here
      ∙ key_marks (key_row c.style column l) (key_comment cs l w) _ refl refl told f
      (node_marks cs (value_margins (setting c.style cs) column l w) (margins ∙ (ap (λ z. value_entries c.style z w) e ∙ sym (same_value_entries c.style m (blocks_alike b)))) b d)

  pairs_marks : {t : List ℕ} {c : LayoutSetting} {m : ℕ} {xs ys : Pairs} {ps : List PlacedRow} (cs : List CommentValue) (column : ℕ) → column ≡ m → AlikeBlockPairs c.style c.comments cs xs ys → PairsRows t c m xs ys ps
      → marks (rows_of_pairs (setting c.style cs) column ys) ≡ placed_marks ps
  pairs_marks cs column e no_block_pairs no_pair_rows = refl
  pairs_marks {c = c} cs column e (block_pair a b g more) (pair_rows {l = l} {w = w} {ys = ys} {hs = hs} {rs = rs} r others) =
      marks_join (rows_of_pair (setting c.style cs) column l w _ _) (rows_of_pairs (setting c.style cs) column ys) hs rs (pair_marks cs column e a b g r) (pairs_marks cs column e more others)
