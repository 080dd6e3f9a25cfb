-- A node that differs from a settled one only in offsets, with comments after the same keys, is settled as it is, and
-- has rows of the same shapes.
use Rattle.std.proofs.Common.{◌≡◌, ℕ, Bool, true, false, not, ◌&&◌, ◌-◌, List, codes, refl, sym, ap, ◌∙◌, true≢false}
use Rattle.std.specs.Prelude.{if◌then◌else◌}
use Rattle.yf_comments.specs.Comment.{CommentValue}
use Rattle.yf_events.specs.Alike.{Alike, alike_scalars, alike_aliases, alike_sequences, alike_mappings, AlikeItems, alike_nothing, alike_item, AlikePairs, alike_no_pairs, alike_pair}
use Rattle.yf_events.specs.Tree.{Node, alias, sequence, mapping, Items, item, Pairs, pair, is_block_collection}
use Rattle.yf_grammar.specs.Productions.TreesOfMeaning.{Anywhere}
use Rattle.yf_forms.specs.declared.style.Style.{Style}
use Rattle.yf_laws.specs.Preservation.AlikeBlocks.{AlikeBlocks, alike_lines, alike_block_sequences, alike_block_mappings, AlikeBlockItems, no_block_items, block_item, AlikeBlockPairs, no_block_pairs, block_pair}
use Rattle.yf_forms.specs.NormalForms.Normal.{Margins, fits, inner_margins, key_margins, settled, settled_items, settled_pairs, value_margins}
use Rattle.yf_forms.specs.Nodes.OneLine.{props_text}
use Rattle.yf_print.specs.Layouts.Rows.{after_sign, entry_row, pair_rows, props_row, rows, rows_of_items, rows_of_pairs}
use Rattle.yf_laws.proofs.SecondRun.AlikeLemmas.{both_shapes, same_fit, same_joined, same_key_margins, same_pair_rows, same_row, same_scalar, same_value_margins, setting, shapes}
use Rattle.yf_laws.proofs.SecondRun.FixedNodes.{first_item, first_key, first_value, flow_of, items_of, more_items, more_pairs, pairs_of}

mutual
  pub blocks_alike : {s : Style} {cs ds : List CommentValue} {x y : Node} → AlikeBlocks s cs ds x y → Alike Anywhere x y
  blocks_alike (alike_lines a e) = a
  blocks_alike (alike_block_sequences e a) = alike_sequences e (block_items_alike a)
  blocks_alike (alike_block_mappings e a) = alike_mappings e (block_pairs_alike a)

  block_items_alike : {s : Style} {cs ds : List CommentValue} {xs ys : Items} → AlikeBlockItems s cs ds xs ys → AlikeItems Anywhere xs ys
  block_items_alike no_block_items = alike_nothing
  block_items_alike (block_item a more) = alike_item (blocks_alike a) (block_items_alike more)

  block_pairs_alike : {s : Style} {cs ds : List CommentValue} {ps qs : Pairs} → AlikeBlockPairs s cs ds ps qs → AlikePairs Anywhere ps qs
  block_pairs_alike no_block_pairs = alike_no_pairs
  block_pairs_alike (block_pair a b g more) = alike_pair (blocks_alike a) (blocks_alike b) tt (block_pairs_alike more)

-- A node that is settled.

kept_or : (flow one other : Bool) (X Y W Z : Node) → one ≡ other → not flow ≡ false → flow_of X ≡ flow → flow_of W ≡ false → (if flow && one then X else W) ≡ X → (if flow && other then Y else Z) ≡ Y
kept_or false one other X Y W Z e n f g h = absurd (true≢false n)
kept_or true true other X Y W Z e n f g h = ap (λ b. if b then Y else Z) (sym e)
kept_or true false other X Y W Z e n f g h = absurd (true≢false (sym f ∙ (sym (ap flow_of h) ∙ g)))

line_settled : {x y : Node} (cs ds : List CommentValue) (s : Style) (margins : Margins) → Alike Anywhere x y → is_block_collection x ≡ false → settled (setting s cs) margins x ≡ x → settled (setting s ds) margins y ≡ y
line_settled cs ds s margins (alike_scalars e) n h = refl
line_settled cs ds s margins (alike_aliases e) n h = refl
line_settled cs ds s margins (alike_sequences e alike_nothing) n h = refl
line_settled cs ds s margins (alike_sequences {at = at} {bt = bt} {flow = flow} {props = props} e (alike_item {x = x} {y = y} {xs = xs} {ys = ys} a more)) n h =
    let X : Node = sequence at flow props (item x xs) in
    let Y : Node = sequence bt flow props (item y ys) in
    let same : fits s margins.column X ≡ fits s margins.column Y = same_fit {K = Anywhere} {x = X} {y = Y} s margins.column (alike_sequences e (alike_item a more)) in
    kept_or flow (fits s margins.column X) (fits s margins.column Y) X Y (sequence at false props (settled_items (setting s cs) margins.entries (item x xs)))
    (sequence bt false props (settled_items (setting s ds) margins.entries (item y ys))) same n refl refl h
line_settled cs ds s margins (alike_mappings e alike_no_pairs) n h = refl
line_settled cs ds s margins (alike_mappings {at = at} {bt = bt} {flow = flow} {props = props} e (alike_pair {k = k} {l = l} {v = v} {w = w} {ps = ps} {qs = qs} a b g more)) n h =
    let X : Node = mapping at flow props (pair k v ps) in
    let Y : Node = mapping bt flow props (pair l w qs) in
    let same : fits s margins.column X ≡ fits s margins.column Y = same_fit {K = Anywhere} {x = X} {y = Y} s margins.column (alike_mappings e (alike_pair a b g more)) in
    kept_or flow (fits s margins.column X) (fits s margins.column Y) X Y (mapping at false props (settled_pairs (setting s cs) margins.entries (pair k v ps)))
    (mapping bt false props (settled_pairs (setting s ds) margins.entries (pair l w qs))) same n refl refl h

mutual
  pub settled_blocks : {cs ds : List CommentValue} {x y : Node} (s : Style) (margins : Margins) → AlikeBlocks s cs ds x y → settled (setting s cs) margins x ≡ x → settled (setting s ds) margins y ≡ y
  settled_blocks {cs} {ds} s margins (alike_lines a e) h = line_settled cs ds s margins a e h
  settled_blocks s margins (alike_block_sequences e no_block_items) h = refl
  settled_blocks s margins (alike_block_sequences {bt = bt} {props = props} e (block_item a more)) h =
      ap (λ w. sequence bt false props w) (settled_block_items s margins.entries (block_item a more) (ap items_of h))
  settled_blocks s margins (alike_block_mappings e no_block_pairs) h = refl
  settled_blocks s margins (alike_block_mappings {bt = bt} {props = props} e (block_pair a b g more)) h =
      ap (λ w. mapping bt false props w) (settled_block_pairs s margins.entries (block_pair a b g more) (ap pairs_of h))

  settled_block_items : {cs ds : List CommentValue} {xs ys : Items} (s : Style) (column : ℕ) → AlikeBlockItems s cs ds xs ys → settled_items (setting s cs) column xs ≡ xs
      → settled_items (setting s ds) column ys ≡ ys
  settled_block_items s column no_block_items h = refl
  settled_block_items {ds = ds} s column (block_item {x = x} {y = y} {ys = ys} a more) h =
      ap (λ z. item z (settled_items (setting s ds) column ys)) (settled_blocks s (inner_margins s column) a (ap (first_item x) h))
      ∙ ap (λ z. item y z) (settled_block_items s column more (ap more_items h))

  settled_block_pairs : {cs ds : List CommentValue} {ps qs : Pairs} (s : Style) (column : ℕ) → AlikeBlockPairs s cs ds ps qs → settled_pairs (setting s cs) column ps ≡ ps
      → settled_pairs (setting s ds) column qs ≡ qs
  settled_block_pairs s column no_block_pairs h = refl
  settled_block_pairs {cs = cs} {ds = ds} s column (block_pair {k = k} {v = v} {l = l} {w = w} {qs = qs} a b g more) h =
      let key : settled (setting s ds) (key_margins s column l) l ≡ l =
      ap (λ z. settled (setting s ds) z l) (sym (same_key_margins s column (blocks_alike a))) ∙ settled_blocks s (key_margins s column k) a (ap (first_key k) h) in
      let value : settled (setting s ds) (value_margins (setting s ds) column l w) w ≡ w =
      ap (λ z. settled (setting s ds) z w) (sym (same_value_margins s column (blocks_alike a) (blocks_alike b) g)) ∙ settled_blocks s (value_margins (setting s cs) column k v) b (ap (first_value v) h) in
      ap (λ z. pair z (settled (setting s ds) (value_margins (setting s ds) column l w) w) (settled_pairs (setting s ds) column qs)) key
      ∙ (ap (λ z. pair l z (settled_pairs (setting s ds) column qs)) value ∙ ap (λ z. pair l w z) (settled_block_pairs s column more (ap more_pairs h)))

-- Rows.

line_rows : {x y : Node} (cs ds : List CommentValue) (s : Style) (margins : Margins) → Alike Anywhere x y → is_block_collection x ≡ false → shapes (rows (setting s cs) margins x) ≡ shapes (rows (setting s ds) margins y)
line_rows cs ds s margins (alike_scalars {at = at} {bt = bt} {props = props} {style = style} {text = text} {lines = lines} e) n =
    same_scalar {K = Anywhere} {at = at} {bt = bt} {props = props} {text = text} {lines = lines} s margins style (alike_scalars e)
line_rows cs ds s margins (alike_aliases {at = at} {bt = bt} {name = name} e) n = same_row s {K = Anywhere} {x = alias at name} {y = alias bt name} margins (alike_aliases e)
line_rows cs ds s margins (alike_sequences {at = at} {bt = bt} {flow = true} {props = props} {xs = xs} {ys = ys} e a) n =
    same_row s {K = Anywhere} {x = sequence at true props xs} {y = sequence bt true props ys} margins (alike_sequences e a)
line_rows cs ds s margins (alike_sequences {flow = false} e alike_nothing) n = refl
line_rows cs ds s margins (alike_sequences {flow = false} e (alike_item a more)) n = absurd (true≢false n)
line_rows cs ds s margins (alike_mappings {at = at} {bt = bt} {flow = true} {props = props} {ps = ps} {qs = qs} e a) n =
    same_row s {K = Anywhere} {x = mapping at true props ps} {y = mapping bt true props qs} margins (alike_mappings e a)
line_rows cs ds s margins (alike_mappings {flow = false} e alike_no_pairs) n = refl
line_rows cs ds s margins (alike_mappings {flow = false} e (alike_pair a b g more)) n = absurd (true≢false n)

mutual
  pub same_block_rows : {cs ds : List CommentValue} {x y : Node} (s : Style) (margins : Margins) → AlikeBlocks s cs ds x y → shapes (rows (setting s cs) margins x) ≡ shapes (rows (setting s ds) margins y)
  same_block_rows {cs} {ds} s margins (alike_lines a e) = line_rows cs ds s margins a e
  same_block_rows s margins (alike_block_sequences {props = props} e a) =
      both_shapes (props_row margins.column (props_text props)) _ (props_row margins.column (props_text props)) _ refl (block_item_rows s margins.entries a)
  same_block_rows s margins (alike_block_mappings {props = props} e a) =
      both_shapes (props_row margins.column (props_text props)) _ (props_row margins.column (props_text props)) _ refl (block_pair_rows s margins.entries a)

  block_item_rows : {cs ds : List CommentValue} {xs ys : Items} (s : Style) (column : ℕ) → AlikeBlockItems s cs ds xs ys
      → shapes (rows_of_items (setting s cs) column xs) ≡ shapes (rows_of_items (setting s ds) column ys)
  block_item_rows s column no_block_items = refl
  block_item_rows {cs = cs} {ds = ds} s column (block_item {x = x} {y = y} {xs = xs} {ys = ys} a more) =
      both_shapes (after_sign s (entry_row column (codes "-") x) (rows (setting s cs) (inner_margins s column) x)) (rows_of_items (setting s cs) column xs)
      (after_sign s (entry_row column (codes "-") y) (rows (setting s ds) (inner_margins s column) y)) (rows_of_items (setting s ds) column ys)
      (same_joined (entry_row column (codes "-") x) (entry_row column (codes "-") y) (s.indent - 1) _ _ refl (same_block_rows s (inner_margins s column) a)) (block_item_rows s column more)

  block_pair_rows : {cs ds : List CommentValue} {ps qs : Pairs} (s : Style) (column : ℕ) → AlikeBlockPairs s cs ds ps qs
      → shapes (rows_of_pairs (setting s cs) column ps) ≡ shapes (rows_of_pairs (setting s ds) column qs)
  block_pair_rows s column no_block_pairs = refl
  block_pair_rows {cs = cs} {ds = ds} s column (block_pair {k = k} {v = v} {l = l} {w = w} {ps = ps} {qs = qs} a b g more) =
      let key : shapes (rows (setting s cs) (key_margins s column k) k) ≡ shapes (rows (setting s ds) (key_margins s column l) l) =
      same_block_rows s (key_margins s column k) a ∙ ap (λ z. shapes (rows (setting s ds) z l)) (same_key_margins s column (blocks_alike a)) in
      let value : shapes (rows (setting s cs) (value_margins (setting s cs) column k v) v) ≡ shapes (rows (setting s ds) (value_margins (setting s ds) column l w) w) =
      same_block_rows s (value_margins (setting s cs) column k v) b ∙ ap (λ z. shapes (rows (setting s ds) z w)) (same_value_margins s column (blocks_alike a) (blocks_alike b) g) in
      both_shapes (pair_rows (setting s cs) column k v _ _) (rows_of_pairs (setting s cs) column ps) (pair_rows (setting s ds) column l w _ _) (rows_of_pairs (setting s ds) column qs)
      (same_pair_rows s column _ _ _ _ (blocks_alike a) (blocks_alike b) g key value) (block_pair_rows s column more)
