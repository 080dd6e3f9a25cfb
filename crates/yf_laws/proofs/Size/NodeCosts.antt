-- The condition on a tree in the house style that bounds its rows: a number of bytes, and the length of a node on one
-- line.
use Rattle.std.proofs.Common.{◌≡◌, ℕ, suc, ◌+◌, ◌*◌, ◌≤◌, Bool, true, false, List, [], ◌∷◌, ◌++◌, length, refl, arith, length-append}
use Rattle.std.specs.Prelude.{if◌then◌else◌, ◌&&◌}
use Rattle.yf_props.specs.Props.{PropsValue}
use Rattle.yf_events.specs.Tree.{NodeOffsets, Node, scalar, alias, sequence, mapping, Items, no_items, item, Pairs, no_pairs, pair}
use Rattle.yf_events.specs.declared.event.ScalarStyle.{ScalarStyle}
use Rattle.yf_events.specs.declared.event.ScalarStyle.TheVariants.{Plain, Single, Double, Literal, Folded}
use Rattle.yf_forms.specs.declared.style.Style.{Style}
use Rattle.yf_forms.specs.NormalForms.Normal.{LayoutSetting, Margins, fits, inner_margins, key_margins, settled, settled_items, settled_pairs, value_margins}
use Rattle.yf_forms.specs.Nodes.OneLine.{bare, colon_after, colon_after_props, more_items, more_pairs, props_text, written}
use Rattle.yf_laws.proofs.Size.LeafBytes.{LeafCost, Short, nothing_short, some_short, props_most, short_spaced}
use Rattle.yf_laws.proofs.Size.Weights.{props_weight}

mutual
  pub data Costs (house : Style) : ℕ → Node → Type 0 where
    scalar_costs : {n : ℕ} {at : NodeOffsets} {props : PropsValue} {style : ScalarStyle} {text : List ℕ} {lines : List (List ℕ)} → LeafCost house n props style text lines → Costs house n (scalar at props style text lines)
    alias_costs : {n : ℕ} {at : NodeOffsets} {name : List ℕ} → suc (length name) ≤ n → Costs house n (alias at name)
    no_items_cost : {n : ℕ} {at : NodeOffsets} {props : PropsValue} → props_weight props + 1 ≤ n → Costs house n (sequence at true props no_items)
    items_cost : {m n : ℕ} {at : NodeOffsets} {flow : Bool} {props : PropsValue} {x : Node} {xs : Items} → ItemsCost house m (item x xs) → props_weight props + m ≤ n
        → Costs house n (sequence at flow props (item x xs))
    no_pairs_cost : {n : ℕ} {at : NodeOffsets} {props : PropsValue} → props_weight props + 1 ≤ n → Costs house n (mapping at true props no_pairs)
    pairs_cost : {m n : ℕ} {at : NodeOffsets} {flow : Bool} {props : PropsValue} {k v : Node} {ps : Pairs} → PairsCost house m (pair k v ps) → props_weight props + m ≤ n
        → Costs house n (mapping at flow props (pair k v ps))

  pub data ItemsCost (house : Style) : ℕ → Items → Type 0 where
    no_more_items : ItemsCost house 0 no_items
    more_items_cost : {a m : ℕ} {x : Node} {xs : Items} → Costs house a x → ItemsCost house m xs → ItemsCost house (suc a + m) (item x xs)

  pub data PairsCost (house : Style) : ℕ → Pairs → Type 0 where
    no_more_pairs : PairsCost house 0 no_pairs
    more_pairs_cost : {a b m : ℕ} {k v : Node} {ps : Pairs} → Costs house a k → Costs house b v → PairsCost house m ps → PairsCost house (suc (a + b) + m) (pair k v ps)

-- Which collections are kept on one line doesn't count.

mutual
  pub settled_costs : {house : Style} {n : ℕ} {y : Node} (c : LayoutSetting) (margins : Margins) → Costs house n y → Costs house n (settled c margins y)
  settled_costs c margins (scalar_costs a) = scalar_costs a
  settled_costs c margins (alias_costs l) = alias_costs l
  settled_costs c margins (no_items_cost l) = no_items_cost l
  settled_costs {house} {n} c margins (items_cost {at = at} {flow = flow} {props = props} {x = x} {xs = xs} a l) =
      by (flow && fits c.style margins.column (sequence at flow props (item x xs))) (items_cost a l) (items_cost (settled_items_cost c margins.entries a) l) where
        by : {y z : Node} (b : Bool) → Costs house n y → Costs house n z → Costs house n (if b then y else z)
        by true d e = d
        by false d e = e
  settled_costs c margins (no_pairs_cost l) = no_pairs_cost l
  settled_costs {house} {n} c margins (pairs_cost {at = at} {flow = flow} {props = props} {k = k} {v = v} {ps = ps} a l) =
      by (flow && fits c.style margins.column (mapping at flow props (pair k v ps))) (pairs_cost a l) (pairs_cost (settled_pairs_cost c margins.entries a) l) where
        by : {y z : Node} (b : Bool) → Costs house n y → Costs house n z → Costs house n (if b then y else z)
        by true d e = d
        by false d e = e

  settled_items_cost : {house : Style} {n : ℕ} {xs : Items} (c : LayoutSetting) (column : ℕ) → ItemsCost house n xs → ItemsCost house n (settled_items c column xs)
  settled_items_cost c column no_more_items = no_more_items
  settled_items_cost c column (more_items_cost a more) = more_items_cost (settled_costs c (inner_margins c.style column) a) (settled_items_cost c column more)

  settled_pairs_cost : {house : Style} {n : ℕ} {ps : Pairs} (c : LayoutSetting) (column : ℕ) → PairsCost house n ps → PairsCost house n (settled_pairs c column ps)
  settled_pairs_cost c column no_more_pairs = no_more_pairs
  settled_pairs_cost c column (more_pairs_cost {k = k} {v = v} a b more) =
      more_pairs_cost (settled_costs c (key_margins c.style column k) a) (settled_costs c (value_margins c column k v) b) (settled_pairs_cost c column more)

-- On one line.

pub colon_most : (k : Node) → length (colon_after k) ≤ 2
colon_most (scalar at props Plain [] lines) = by (props_text props) where
  by : (w : List ℕ) → length (colon_after_props w) ≤ 2
  by [] = omega arith
  by (b ∷ w) = omega arith
colon_most (scalar at props Plain (b ∷ text) lines) = omega arith
colon_most (scalar at props Single text lines) = omega arith
colon_most (scalar at props Double text lines) = omega arith
colon_most (scalar at props Literal text lines) = omega arith
colon_most (scalar at props Folded text lines) = omega arith
colon_most (alias at name) = omega arith
colon_most (sequence at flow props xs) = omega arith
colon_most (mapping at flow props ps) = omega arith

shorter : {n : ℕ} {w : List ℕ} → Short n w → length w ≤ 8 * n
shorter nothing_short = omega arith
shorter (some_short a l) = omega (arith, l)

item_text : (n a m : ℕ) (x rest : List ℕ) → length x ≤ 8 * a → length rest ≤ 8 * m → n ≡ suc a + m → Short n (91 ∷ (x ++ (rest ++ (93 ∷ []))))
item_text n a m x rest k l e = some_short (omega (arith, e)) (omega (arith, k, l, e, length-append x (rest ++ (93 ∷ [])), length-append rest (93 ∷ [])))

pair_text : (n a b m : ℕ) (x colon y rest : List ℕ) → length x ≤ 8 * a → length colon ≤ 2 → length y ≤ 8 * b → length rest ≤ 8 * m → n ≡ suc (a + b) + m
    → Short n (123 ∷ (x ++ (colon ++ (32 ∷ (y ++ (rest ++ (125 ∷ [])))))))
pair_text n a b m x colon y rest k c l o e =
    some_short (omega (arith, e))
    (omega (arith, k, c, l, o, e, length-append x (colon ++ (32 ∷ (y ++ (rest ++ (125 ∷ []))))), length-append colon (32 ∷ (y ++ (rest ++ (125 ∷ [])))), length-append y (rest ++ (125 ∷ [])), length-append rest (125 ∷ [])))

mutual
  pub written_short : {house : Style} {n : ℕ} {y : Node} → Costs house n y → Short n (written house y)
  written_short {house = house} (scalar_costs a) = a.short
  written_short {house = house} {n = n} (alias_costs {name = name} l) = some_short (omega (arith, l)) (omega (arith, l))
  written_short {house = house} {n = n} (no_items_cost {props = props} l) = short_spaced (props_weight props) 1 n (props_text props) (91 ∷ 93 ∷ []) (props_most props) (some_short (omega arith) (omega arith)) l
  written_short {house = house} {n = n} (items_cost {at = at} {flow = flow} {props = props} {x = x} {xs = xs} (more_items_cost {a = a} {m = m} d more) l) =
      short_spaced (props_weight props) (suc a + m) n (props_text props) (bare house (sequence at flow props (item x xs))) (props_most props)
      (item_text (suc a + m) a m (written house x) (more_items house xs) (shorter (written_short d)) (items_short more) refl) l
  written_short {house = house} {n = n} (no_pairs_cost {props = props} l) = short_spaced (props_weight props) 1 n (props_text props) (123 ∷ 125 ∷ []) (props_most props) (some_short (omega arith) (omega arith)) l
  written_short {house = house} {n = n} (pairs_cost {at = at} {flow = flow} {props = props} {k = k} {v = v} {ps = ps} (more_pairs_cost {a = a} {b = b} {m = m} d e more) l) =
      short_spaced (props_weight props) (suc (a + b) + m) n (props_text props) (bare house (mapping at flow props (pair k v ps))) (props_most props)
      (pair_text (suc (a + b) + m) a b m (written house k) (colon_after k) (written house v) (more_pairs house ps) (shorter (written_short d)) (colon_most k) (shorter (written_short e)) (pairs_short more) refl) l

  items_short : {house : Style} {n : ℕ} {xs : Items} → ItemsCost house n xs → length (more_items house xs) ≤ 8 * n
  items_short no_more_items = omega arith
  items_short {house = house} (more_items_cost {x = x} {xs = xs} a more) =
      let one = shorter (written_short a) in let others = items_short more in omega (arith, one, others, length-append (written house x) (more_items house xs))

  pairs_short : {house : Style} {n : ℕ} {ps : Pairs} → PairsCost house n ps → length (more_pairs house ps) ≤ 8 * n
  pairs_short no_more_pairs = omega arith
  pairs_short {house = house} (more_pairs_cost {k = k} {v = v} {ps = ps} a b more) =
      let one = shorter (written_short a) in
      let two = shorter (written_short b) in
      let others = pairs_short more in
      let colon = colon_most k in
      omega (arith, one, two, others, colon, length-append (written house k) (colon_after k ++ (32 ∷ (written house v ++ more_pairs house ps))), length-append (colon_after k) (32 ∷ (written house v ++ more_pairs house ps)), length-append (written house v) (more_pairs house ps))
