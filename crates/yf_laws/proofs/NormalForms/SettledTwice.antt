-- A settled node stays unchanged, if its entries and, for a flow collection, its column are unchanged; so a normal form
-- is settled.
use Rattle.std.proofs.Common.{◌≡◌, ℕ, Bool, true, false, ◌&&◌, ◌+◌, refl, sym, ap, ◌∙◌}
use Rattle.std.specs.Prelude.{nat_le, if◌then◌else◌}
use Rattle.std.proofs.lemmas.Bool.{and_parts}
use Rattle.yf_forms.specs.NormalForms.Normal.{LayoutSetting, Margins, inner_margins, key_margins, value_margins, value_of_implicit, is_implicit, fits, settled, settled_items, settled_pairs}
use Rattle.yf_forms.specs.Nodes.OneLine.{width, written}
use Rattle.yf_events.specs.Tree.{Node, scalar, alias, sequence, mapping, Items, no_items, item, Pairs, no_pairs, pair, is_filled_flow}
use Rattle.yf_forms.proofs.Decide.SettledLemmas.{settled_key, settled_value_entries}

-- both margins are alike for a node
pub record SameMargins (x : Node) (one other : Margins) : Type 0 where
  pub entries : one.entries ≡ other.entries
  pub column : is_filled_flow x ≡ true → one.column ≡ other.column

again : (c : LayoutSetting) (other : Margins) (b : Bool) (x y : Node) → (b ≡ true → settled c other x ≡ x) → settled c other y ≡ y
    → settled c other (if b then x else y) ≡ (if b then x else y)
again c other true x y h k = h refl
again c other false x y h k = k

-- an implicit key is settled as itself
pub key_stays : (c : LayoutSetting) (column : ℕ) (k : Node) → is_implicit c.style column k ≡ true → settled c (key_margins c.style column k) k ≡ k
key_stays c column (scalar at props style text lines) e = refl
key_stays c column (alias at name) e = refl
key_stays c column (sequence at flow props no_items) e = refl
key_stays c column (sequence at flow props (item x xs)) e =
    let x' : Node = sequence at flow props (item x xs) in
    let y' : Node = sequence at false props (settled_items c (column + c.style.indent) (item x xs)) in
    let here : (flow && fits c.style column x') ≡ true = (and_parts (flow && fits c.style column x') (nat_le (width (written c.style x')) 1023) e).0 in
    ap (λ b. if flow && fits c.style (if b then column else column + c.style.indent) x' then x' else y') e
    ∙ ap (λ b. if b then x' else y') here
key_stays c column (mapping at flow props no_pairs) e = refl
key_stays c column (mapping at flow props (pair k v ps)) e =
    let x' : Node = mapping at flow props (pair k v ps) in
    let y' : Node = mapping at false props (settled_pairs c (column + c.style.indent) (pair k v ps)) in
    let here : (flow && fits c.style column x') ≡ true = (and_parts (flow && fits c.style column x') (nat_le (width (written c.style x')) 1023) e).0 in
    ap (λ b. if flow && fits c.style (if b then column else column + c.style.indent) x' then x' else y') e
    ∙ ap (λ b. if b then x' else y') here

-- a flow collection that stays one is settled as itself
pub flow_stays : (c : LayoutSetting) (margins : Margins) (x : Node) → is_filled_flow (settled c margins x) ≡ true → settled c margins x ≡ x
flow_stays c margins (scalar at props style text lines) e = refl
flow_stays c margins (alias at name) e = refl
flow_stays c margins (sequence at flow props no_items) e = refl
flow_stays c margins (sequence at flow props (item x xs)) e = by (flow && fits c.style margins.column (sequence at flow props (item x xs))) e where
  by : (b : Bool) → is_filled_flow (if b then sequence at flow props (item x xs) else sequence at false props (settled_items c margins.entries (item x xs))) ≡ true
      → (if b then sequence at flow props (item x xs) else sequence at false props (settled_items c margins.entries (item x xs))) ≡ sequence at flow props (item x xs)
  by true e = refl
  by false e = absurd cc
flow_stays c margins (mapping at flow props no_pairs) e = refl
flow_stays c margins (mapping at flow props (pair k v ps)) e = by (flow && fits c.style margins.column (mapping at flow props (pair k v ps))) e where
  by : (b : Bool) → is_filled_flow (if b then mapping at flow props (pair k v ps) else mapping at false props (settled_pairs c margins.entries (pair k v ps))) ≡ true
      → (if b then mapping at flow props (pair k v ps) else mapping at false props (settled_pairs c margins.entries (pair k v ps))) ≡ mapping at flow props (pair k v ps)
  by true e = refl
  by false e = absurd cc

-- the margins of keys and values
pub same_key_margins : (c : LayoutSetting) (column : ℕ) (k : Node) → key_margins c.style column k ≡ key_margins c.style column (settled c (key_margins c.style column k) k)
same_key_margins c column k = ap (λ b. record (inner_margins c.style column) { column = if b then column else column + c.style.indent }) (sym (settled_key c column k))

pub same_value_margins : (c : LayoutSetting) (column : ℕ) (k v : Node) → SameMargins (settled c (value_margins c column k v) v) (value_margins c column k v)
    (value_margins c column (settled c (key_margins c.style column k) k) (settled c (value_margins c column k v) v))
same_value_margins c column k v = record {
  entries = sym (settled_value_entries c column k v);
  column = λ e. sym (ap (λ w. (value_margins c column K w).column) (flow_stays c (value_margins c column k v) v e) ∙ by (is_implicit c.style column k) refl);
} where
  K : Node
  K = settled c (key_margins c.style column k) k

  by : (b : Bool) → is_implicit c.style column k ≡ b → (value_margins c column K v).column ≡ (value_margins c column k v).column
  by true e = ap (λ w. (value_margins c column w v).column) (key_stays c column k e)
  by false e =
      ap (λ b. (if b then value_of_implicit c column K v else inner_margins c.style column).column) (settled_key c column k ∙ e)
      ∙ sym (ap (λ b. (if b then value_of_implicit c column k v else inner_margins c.style column).column) e)

mutual
  pub settled_twice : (c : LayoutSetting) (one other : Margins) (x : Node) → SameMargins (settled c one x) one other → settled c other (settled c one x) ≡ settled c one x
  settled_twice c one other (scalar at props style text lines) s = refl
  settled_twice c one other (alias at name) s = refl
  settled_twice c one other (sequence at flow props no_items) s = refl
  settled_twice c one other (sequence at flow props (item x xs)) s =
      let whole : Node = sequence at flow props (item x xs) in
      let block : Node = sequence at false props (settled_items c one.entries (item x xs)) in
      again c other (flow && fits c.style one.column whole) whole block
      (λ e. let here : flow ≡ true = (and_parts flow (fits c.style one.column whole) e).0 in
      let stays : is_filled_flow (settled c one whole) ≡ true = ap (λ b. is_filled_flow (if b then whole else block)) e ∙ here in
      ap (λ n. if flow && fits c.style n whole then whole else sequence at false props (settled_items c other.entries (item x xs))) (sym (s.column stays))
      ∙ ap (λ b. if b then whole else sequence at false props (settled_items c other.entries (item x xs))) e)
      (ap (λ n. sequence at false props (settled_items c n (settled_items c one.entries (item x xs)))) (sym s.entries)
      ∙ ap (λ w. sequence at false props w) (items_twice c one.entries (item x xs)))
  settled_twice c one other (mapping at flow props no_pairs) s = refl
  settled_twice c one other (mapping at flow props (pair k v ps)) s =
      let whole : Node = mapping at flow props (pair k v ps) in
      let block : Node = mapping at false props (settled_pairs c one.entries (pair k v ps)) in
      again c other (flow && fits c.style one.column whole) whole block
      (λ e. let here : flow ≡ true = (and_parts flow (fits c.style one.column whole) e).0 in
      let stays : is_filled_flow (settled c one whole) ≡ true = ap (λ b. is_filled_flow (if b then whole else block)) e ∙ here in
      ap (λ n. if flow && fits c.style n whole then whole else mapping at false props (settled_pairs c other.entries (pair k v ps))) (sym (s.column stays))
      ∙ ap (λ b. if b then whole else mapping at false props (settled_pairs c other.entries (pair k v ps))) e)
      (ap (λ n. mapping at false props (settled_pairs c n (settled_pairs c one.entries (pair k v ps)))) (sym s.entries)
      ∙ ap (λ w. mapping at false props w) (pairs_twice c one.entries (pair k v ps)))

  pub items_twice : (c : LayoutSetting) (column : ℕ) (xs : Items) → settled_items c column (settled_items c column xs) ≡ settled_items c column xs
  items_twice c column no_items = refl
  items_twice c column (item x xs) =
      ap (λ w. item w (settled_items c column (settled_items c column xs)))
      (settled_twice c (inner_margins c.style column) (inner_margins c.style column) x (record { entries = refl; column = λ e. refl }))
      ∙ ap (λ w. item (settled c (inner_margins c.style column) x) w) (items_twice c column xs)

  pub pairs_twice : (c : LayoutSetting) (column : ℕ) (ps : Pairs) → settled_pairs c column (settled_pairs c column ps) ≡ settled_pairs c column ps
  pairs_twice c column no_pairs = refl
  pairs_twice c column (pair k v ps) =
      let K : Node = settled c (key_margins c.style column k) k in
      let V : Node = settled c (value_margins c column k v) v in
      let key : settled c (key_margins c.style column K) K ≡ K =
      settled_twice c (key_margins c.style column k) (key_margins c.style column K) k
      (record { entries = refl; column = λ e. ap (λ w. w.column) (same_key_margins c column k) }) in
      let value : settled c (value_margins c column K V) V ≡ V = settled_twice c (value_margins c column k v) (value_margins c column K V) v (same_value_margins c column k v) in
      rw (key, value, pairs_twice c column ps) refl
