-- What the normal form of a tree leaves unchanged: the offsets of its leaves, which of them have characters, and which
-- nodes begin entries.
use Rattle.std.proofs.Common.{◌≡◌, ℕ, Bool, true, false, not, ◌&&◌, List, [], ◌∷◌, refl, ap, ◌∙◌}
use Rattle.std.specs.Prelude.{is_some, if◌then◌else◌}
use Rattle.std.specs.Str.{chars}
use Rattle.yf_lines.specs.Steady.{is_steady}
use Rattle.yf_lines.specs.declared.quotes.Quotes.{Quotes}
use Rattle.yf_lines.proofs.CoreSteady.{nothing_steady}
use Rattle.yf_props.specs.Props.{PropsValue}
use Rattle.yf_quoted.specs.Written.{quotes_in}
use Rattle.yf_events.specs.declared.event.ScalarStyle.{ScalarStyle}
use Rattle.yf_events.specs.declared.event.ScalarStyle.TheVariants.{Plain, Single, Double, Literal, Folded}
use Rattle.yf_events.specs.Tree.{DocumentTree, Node, NodeOffsets, scalar, alias, sequence, mapping, Items, no_items, item, Pairs, no_pairs, pair, leaves, leaves_of_items, leaves_of_pairs, standing}
use Rattle.yf_forms.specs.declared.style.Style.{Style}
use Rattle.yf_laws.proofs.OfTexts.KeyEntries.{keys_begin, keys_begin_in_items, keys_begin_in_pairs}
use Rattle.yf_forms.specs.NormalForms.Forms.{agree, is_empty_node, is_placed, items_are_placed, pairs_are_placed}
use Rattle.yf_forms.specs.NormalForms.Normal.{LayoutSetting, Margins, fits, inner_margins, key_margins, normal_document, root_margins, settled, settled_items, settled_pairs, styled, styled_items, styled_pairs, value_margins}
use Rattle.yf_forms.specs.Nodes.ScalarStyles.{has_block_content, quoted_in, style_in, wanted}

pub record SameNode (x y : Node) : Type 0 where
  pub placed : is_placed x ≡ is_placed y
  pub begins : keys_begin x ≡ keys_begin y
  pub leaves : leaves x ≡ leaves y
  pub standing : standing x ≡ standing y

pub record SameItems (xs ys : Items) : Type 0 where
  pub placed : items_are_placed xs ≡ items_are_placed ys
  pub begin : keys_begin_in_items xs ≡ keys_begin_in_items ys
  pub leaves : leaves_of_items xs ≡ leaves_of_items ys

pub record SamePairs (ps qs : Pairs) : Type 0 where
  pub placed : pairs_are_placed ps ≡ pairs_are_placed qs
  pub begin : keys_begin_in_pairs ps ≡ keys_begin_in_pairs qs
  pub leaves : leaves_of_pairs ps ≡ leaves_of_pairs qs

node_as_is : (x : Node) → SameNode x x
node_as_is x = record { placed = refl; begins = refl; leaves = refl; standing = refl }

node_twice : {x y z : Node} → SameNode x y → SameNode y z → SameNode x z
node_twice a b = record {
  placed = a.placed ∙ b.placed;
  begins = a.begins ∙ b.begins;
  leaves = a.leaves ∙ b.leaves;
  standing = a.standing ∙ b.standing;
}

same_item : {x y : Node} {xs ys : Items} → SameNode x y → SameItems xs ys → SameItems (item x xs) (item y ys)
same_item {x} {y} {xs} {ys} a b = record {
  placed = rw (a.placed, b.placed) refl;
  begin = rw (a.begins, b.begin) refl;
  leaves = rw (a.leaves, b.leaves) refl;
}

same_pair : {k l v w : Node} {ps qs : Pairs} → SameNode k l → SameNode v w → SamePairs ps qs → SamePairs (pair k v ps) (pair l w qs)
same_pair {k} {l} {v} {w} {ps} {qs} a b c = record {
  placed = rw (a.placed, b.placed, c.placed) refl;
  begin = rw (a.begins, b.begins, b.standing, c.begin) refl;
  leaves = rw (a.leaves, b.leaves, c.leaves) refl;
}

-- for collections with entries

same_sequence : {at : NodeOffsets} {f g : Bool} {props : PropsValue} {x y : Node} {xs ys : Items} → SameItems (item x xs) (item y ys)
    → SameNode (sequence at f props (item x xs)) (sequence at g props (item y ys))
same_sequence a = record { placed = a.placed; begins = a.begin; leaves = a.leaves; standing = refl }

same_mapping : {at : NodeOffsets} {f g : Bool} {props : PropsValue} {k l v w : Node} {ps qs : Pairs} → SamePairs (pair k v ps) (pair l w qs)
    → SameNode (mapping at f props (pair k v ps)) (mapping at g props (pair l w qs))
same_mapping a = record { placed = a.placed; begins = a.begin; leaves = a.leaves; standing = refl }

either : (b : Bool) {x y z : Node} → SameNode x z → SameNode y z → SameNode (if b then x else y) z
either true h k = h
either false h k = k

-- Settled nodes.

mutual
  pub settled_same : (c : LayoutSetting) (margins : Margins) (x : Node) → SameNode (settled c margins x) x
  settled_same c margins (scalar at props style text lines) = node_as_is (scalar at props style text lines)
  settled_same c margins (alias at name) = node_as_is (alias at name)
  settled_same c margins (sequence at flow props no_items) = node_as_is (sequence at flow props no_items)
  settled_same c margins (sequence at flow props (item x xs)) =
      either (flow && fits c.style margins.column (sequence at flow props (item x xs))) (node_as_is (sequence at flow props (item x xs)))
      (same_sequence (items_same c margins.entries (item x xs)))
  settled_same c margins (mapping at flow props no_pairs) = node_as_is (mapping at flow props no_pairs)
  settled_same c margins (mapping at flow props (pair k v ps)) =
      either (flow && fits c.style margins.column (mapping at flow props (pair k v ps))) (node_as_is (mapping at flow props (pair k v ps)))
      (same_mapping (pairs_same c margins.entries (pair k v ps)))

  items_same : (c : LayoutSetting) (column : ℕ) (xs : Items) → SameItems (settled_items c column xs) xs
  items_same c column no_items = record { placed = refl; begin = refl; leaves = refl }
  items_same c column (item x xs) = same_item (settled_same c (inner_margins c.style column) x) (items_same c column xs)

  pairs_same : (c : LayoutSetting) (column : ℕ) (ps : Pairs) → SamePairs (settled_pairs c column ps) ps
  pairs_same c column no_pairs = record { placed = refl; begin = refl; leaves = refl }
  pairs_same c column (pair k v ps) =
      same_pair (settled_same c (key_margins c.style column k) k) (settled_same c (value_margins c column k v) v) (pairs_same c column ps)

-- Nodes in the house style.

quoted_full : (props : PropsValue) (text : List ℕ) (q : Quotes) → is_empty_node props (style_in q) text ≡ false
quoted_full props text Quotes.Single = refl
quoted_full props text Quotes.Double = refl

full_if : (b : Bool) (props : PropsValue) (one other : ScalarStyle) (text : List ℕ) → is_empty_node props one text ≡ false → is_empty_node props other text ≡ false
    → is_empty_node props (if b then one else other) text ≡ false
full_if true props one other text h k = h
full_if false props one other text h k = k

same_emptiness : (props : PropsValue) (style : ScalarStyle) (text : List ℕ) (house : Style) → is_empty_node props (wanted style text house) text ≡ is_empty_node props style text
same_emptiness props Plain [] house = ap (λ b. is_empty_node props (if b then Plain else quoted_in [] house) []) nothing_steady
same_emptiness props Plain (b ∷ text) house =
    full_if (is_steady (b ∷ text)) props Plain (quoted_in (b ∷ text) house) (b ∷ text) refl (quoted_full props (b ∷ text) (quotes_in house.invisible (chars (b ∷ text)) house.quotes))
same_emptiness props Single text house = quoted_full props text (quotes_in house.invisible (chars text) house.quotes)
same_emptiness props Double text house = quoted_full props text (quotes_in house.invisible (chars text) house.quotes)
same_emptiness props Literal text house =
    full_if (has_block_content text) props Literal (quoted_in text house) text refl (quoted_full props text (quotes_in house.invisible (chars text) house.quotes))
same_emptiness props Folded text house =
    full_if (has_block_content text) props Folded (quoted_in text house) text refl (quoted_full props text (quotes_in house.invisible (chars text) house.quotes))

mutual
  pub styled_same : (t : List ℕ) (c : LayoutSetting) (x : Node) → SameNode (styled t c x) x
  styled_same t c (scalar at props style text lines) =
      record { placed = ap (λ b. agree (is_some at.span) (not b)) (same_emptiness props style text c.style); begins = refl; leaves = refl; standing = refl }
  styled_same t c (alias at name) = node_as_is (alias at name)
  styled_same t c (sequence at flow props no_items) = record { placed = refl; begins = refl; leaves = refl; standing = refl }
  styled_same t c (sequence at flow props (item x xs)) = same_sequence (styled_items_same t c (item x xs))
  styled_same t c (mapping at flow props no_pairs) = record { placed = refl; begins = refl; leaves = refl; standing = refl }
  styled_same t c (mapping at flow props (pair k v ps)) = same_mapping (styled_pairs_same t c (pair k v ps))

  styled_items_same : (t : List ℕ) (c : LayoutSetting) (xs : Items) → SameItems (styled_items t c xs) xs
  styled_items_same t c no_items = record { placed = refl; begin = refl; leaves = refl }
  styled_items_same t c (item x xs) = same_item (styled_same t c x) (styled_items_same t c xs)

  styled_pairs_same : (t : List ℕ) (c : LayoutSetting) (ps : Pairs) → SamePairs (styled_pairs t c ps) ps
  styled_pairs_same t c no_pairs = record { placed = refl; begin = refl; leaves = refl }
  styled_pairs_same t c (pair k v ps) = same_pair (styled_same t c k) (styled_same t c v) (styled_pairs_same t c ps)

-- Roots.

pub root_same : (t : List ℕ) (c : LayoutSetting) (d : DocumentTree) → SameNode (normal_document t c d).root d.root
root_same t c d = node_twice (settled_same c (root_margins c.style) (styled t c d.root)) (styled_same t c d.root)
