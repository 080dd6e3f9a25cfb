-- In trees, the pass finds what holds their nodes.
use Rattle.std.proofs.Common.{◌≡◌, ℕ, ◌+◌, ◌<◌, ◌≤◌, ◌⊎◌, Bool, false, List, [], ◌∷◌, ◌++◌, Option, length, refl, sym, subst, ap, ◌∙◌, inl, inr, ⊎_elim, arith}
use Rattle.std.specs.List.{Contains}
use Rattle.std.proofs.lemmas.List.Elements.{Contains-append_cases, Contains-append_left, Contains-append_right}
use Rattle.yf_events.specs.Tree.{Node, scalar, alias, sequence, mapping, Items, no_items, item, Pairs, no_pairs, pair, DocumentTree, flat, flat_document}
use Rattle.yf_rule_sets.proofs.RuleSets.KeySetLemmas.{first_same, head_or_later, is_head, is_later, nothing_in}
use Rattle.yf_rule_sets.specs.RuleSets.Nodes.{NumberedNode, NumberedPair, IsNodeOf, items_from, items_of, pairs_from, pairs_of, roots_from}
use Rattle.yf_rule_sets.specs.RuleSets.Nodes.IsChildOf.{as_item, as_key, as_value}
use Rattle.yf_rule_sets.specs.RuleSets.Nodes.IsNodeOf.{is_root, is_inner}
use Rattle.yf_rule_sets.specs.Passes.NodeContexts.{IsHeld, Stood, held, stood, stood_in, stood_in_documents, stood_in_items, stood_in_pairs}
use Rattle.yf_rule_sets.specs.Passes.NodeContexts.IsHeld.{by_nothing, by_sequence, as_its_key, as_its_value}
use Rattle.yf_rule_sets.specs.declared.facts.node_context.Around.{Around}
use Rattle.yf_rule_sets.specs.declared.facts.node_context.Around.TheVariants.{Nothing}
use Rattle.yf_forms.proofs.Texts.OneLineRuns.{flat_filled as node_size}

-- a node of the pass
pub record NodeWithContext (c : ℕ → Option ℕ) (m : ℕ → Bool) (trees : List DocumentTree) (s : Stood) : Type 0 where
  pub node : NumberedNode
  pub at : node.0 ≡ s.at
  pub is : IsHeld c m trees node s.around s.beside

pub held_is_at : {c : ℕ → Option ℕ} {m : ℕ → Bool} {trees : List DocumentTree} {y : NumberedNode} {a : Around} {b : Bool} → IsHeld c m trees y a b → IsNodeOf trees y
held_is_at (by_nothing r) = is_root r
held_is_at (by_sequence s q) = is_inner s (as_item q)
held_is_at (as_its_key s q) = is_inner s (as_key q)
held_is_at (as_its_value s q) = is_inner s (as_value q)

told_here : (c : ℕ → Option ℕ) (m : ℕ → Bool) (trees : List DocumentTree) (x : Node) (i : ℕ) (a : Around) (b : Bool) → IsHeld c m trees (i, x) a b → (s : Stood) → stood i a b ≡ s
    → NodeWithContext c m trees s
told_here c m trees x i a b h s e = subst (NodeWithContext c m trees) e (record { node = (i, x); at = refl; is = h })

mutual
  node_told : (c : ℕ → Option ℕ) (m : ℕ → Bool) (trees : List DocumentTree) (x : Node) (i : ℕ) (a : Around) (b : Bool) → IsHeld c m trees (i, x) a b → (s : Stood)
      → Contains (stood_in c m i a b x) s → NodeWithContext c m trees s
  node_told c m trees (scalar at props style text lines) i a b h s q = ⊎_elim (λ (e : stood i a b ≡ s). told_here c m trees _ i a b h s e)
      (λ (l : Contains [] s). absurd (nothing_in s l)) (head_or_later (stood i a b) [] s q)
  node_told c m trees (alias at name) i a b h s q = ⊎_elim (λ (e : stood i a b ≡ s). told_here c m trees _ i a b h s e)
      (λ (l : Contains [] s). absurd (nothing_in s l)) (head_or_later (stood i a b) [] s q)
  node_told c m trees (sequence at flow props items) i a b h s q = ⊎_elim (λ (e : stood i a b ≡ s). told_here c m trees _ i a b h s e)
      (λ (l : Contains (stood_in_items c m (i + 1) (held (c i)) items) s).
      items_told c m trees items (i + 1) (i, sequence at flow props items) (held_is_at h) (λ y z. z) s l)
      (head_or_later (stood i a b) (stood_in_items c m (i + 1) (held (c i)) items) s q)
  node_told c m trees (mapping at flow props pairs) i a b h s q = ⊎_elim (λ (e : stood i a b ≡ s). told_here c m trees _ i a b h s e)
      (λ (l : Contains (stood_in_pairs c m (i + 1) (held (c i)) pairs) s).
      pairs_told c m trees pairs (i + 1) (i, mapping at flow props pairs) (held_is_at h) (λ k v z. z) s l)
      (head_or_later (stood i a b) (stood_in_pairs c m (i + 1) (held (c i)) pairs) s q)

  items_told : (c : ℕ → Option ℕ) (m : ℕ → Bool) (trees : List DocumentTree) (xs : Items) (i : ℕ) (x : NumberedNode) → IsNodeOf trees x
      → ((y : NumberedNode) → Contains (items_from i xs) y → Contains (items_of x.0 x.1) y) → (s : Stood) → Contains (stood_in_items c m i (held (c x.0)) xs) s → NodeWithContext c m trees s
  items_told c m trees no_items i x n f s q = absurd (nothing_in s q)
  items_told c m trees (item y ys) i x n f s q =
      let j = i + length (flat y) in
      let a = held (c x.0) in
      ⊎_elim
      (λ (h : Contains (stood_in c m i a false y) s). node_told c m trees y i a false (by_sequence n (f (i, y) (is_head (i, y) (items_from j ys)))) s h)
      (λ (h : Contains (stood_in_items c m j a ys) s). items_told c m trees ys j x n (λ z w. f z (is_later (i, y) (items_from j ys) z w)) s h)
      (Contains-append_cases (stood_in c m i a false y) (stood_in_items c m j a ys) s q)

  pairs_told : (c : ℕ → Option ℕ) (m : ℕ → Bool) (trees : List DocumentTree) (ps : Pairs) (i : ℕ) (x : NumberedNode) → IsNodeOf trees x
      → ((k v : NumberedNode) → Contains (pairs_from i ps) (k, v) → Contains (pairs_of x.0 x.1) (k, v)) → (s : Stood) → Contains (stood_in_pairs c m i (held (c x.0)) ps) s
      → NodeWithContext c m trees s
  pairs_told c m trees no_pairs i x n f s q = absurd (nothing_in s q)
  pairs_told c m trees (pair k v ps) i x n f s q =
      let j = i + length (flat k) in
      let h = j + length (flat v) in
      let a = held (c x.0) in
      let K = stood_in c m i a false k in
      let V = stood_in c m j a (m i) v in
      let Z = stood_in_pairs c m h a ps in
      let first = f (i, k) (j, v) (is_head ((i, k), (j, v)) (pairs_from h ps)) in
      ⊎_elim
      (λ (g : Contains K s). node_told c m trees k i a false (as_its_key n first) s g)
      (λ (g : Contains (V ++ Z) s). ⊎_elim
      (λ (g : Contains V s). node_told c m trees v j a (m i) (as_its_value n first) s g)
      (λ (g : Contains Z s). pairs_told c m trees ps h x n (λ b d w. f b d (is_later ((i, k), (j, v)) (pairs_from h ps) (b, d) w)) s g)
      (Contains-append_cases V Z s g))
      (Contains-append_cases K (V ++ Z) s q)

roots_told : (c : ℕ → Option ℕ) (m : ℕ → Bool) (trees : List DocumentTree) (ds : List DocumentTree) (i : ℕ)
    → ((x : NumberedNode) → Contains (roots_from i ds) x → Contains (roots_from 1 trees) x) → (s : Stood) → Contains (stood_in_documents c m i ds) s → NodeWithContext c m trees s
roots_told c m trees [] i f s q = absurd (nothing_in s q)
roots_told c m trees (d ∷ ds) i f s q =
    let j = i + length (flat_document d) in
    let X = stood_in c m (i + 1) Nothing false d.root in
    ⊎_elim
    (λ (h : Contains X s). node_told c m trees d.root (i + 1) Nothing false (by_nothing (f (i + 1, d.root) (is_head (i + 1, d.root) (roots_from j ds)))) s h)
    (λ (h : Contains (stood_in_documents c m j ds) s). roots_told c m trees ds j (λ x w. f x (is_later (i + 1, d.root) (roots_from j ds) x w)) s h)
    (Contains-append_cases X (stood_in_documents c m j ds) s q)

-- each result of the pass is right
pub all_told : (c : ℕ → Option ℕ) (m : ℕ → Bool) (trees : List DocumentTree) (s : Stood) → Contains (stood_in_documents c m 1 trees) s → NodeWithContext c m trees s
all_told c m trees s q = roots_told c m trees trees 1 (λ x w. w) s q

-- the other way: the pass has a result for each node

module _ (c : ℕ → Option ℕ) (m : ℕ → Bool) where
  first_there : (i : ℕ) (a : Around) (b : Bool) (x : Node) → Contains (stood_in c m i a b x) (stood i a b)
  first_there i a b (scalar at props style text lines) = is_head (stood i a b) []
  first_there i a b (alias at name) = is_head (stood i a b) []
  first_there i a b (sequence at flow props items) = is_head (stood i a b) (stood_in_items c m (i + 1) (held (c i)) items)
  first_there i a b (mapping at flow props pairs) = is_head (stood i a b) (stood_in_pairs c m (i + 1) (held (c i)) pairs)

  items_there : (xs : Items) (i : ℕ) (a : Around) (y : NumberedNode) (s : Stood) → Contains (items_from i xs) y → Contains (stood_in c m y.0 a false y.1) s
      → Contains (stood_in_items c m i a xs) s
  items_there no_items i a y s q h = absurd (nothing_in y q)
  items_there (item x xs) i a y s q h =
      let j = i + length (flat x) in
      let X = stood_in c m i a false x in
      let Z = stood_in_items c m j a xs in
      ⊎_elim
      (λ (e : ◌≡◌ {A = NumberedNode} (i, x) y). Contains-append_left X Z s (subst (λ (z : NumberedNode). Contains (stood_in c m z.0 a false z.1) s) (sym e) h))
      (λ (w : Contains (items_from j xs) y). Contains-append_right X Z s (items_there xs j a y s w h))
      (head_or_later (i, x) (items_from j xs) y q)

  pairs_there : (ps : Pairs) (i : ℕ) (a : Around) (k v : NumberedNode) (s : Stood) → Contains (pairs_from i ps) (k, v)
      → Contains (stood_in c m k.0 a false k.1) s ⊎ Contains (stood_in c m v.0 a (m k.0) v.1) s → Contains (stood_in_pairs c m i a ps) s
  pairs_there no_pairs i a k v s q h = absurd (nothing_in (k, v) q)
  pairs_there (pair x y ps) i a k v s q h =
      let j = i + length (flat x) in
      let n = j + length (flat y) in
      let X = stood_in c m i a false x in
      let Y = stood_in c m j a (m i) y in
      let Z = stood_in_pairs c m n a ps in
      ⊎_elim
      (λ (e : ◌≡◌ {A = NumberedPair} ((i, x), (j, y)) (k, v)). ⊎_elim
      (λ (g : Contains (stood_in c m k.0 a false k.1) s).
      Contains-append_left X (Y ++ Z) s (subst (λ (z : NumberedNode). Contains (stood_in c m z.0 a false z.1) s) (sym (first_same e)) g))
      (λ (g : Contains (stood_in c m v.0 a (m k.0) v.1) s).
      Contains-append_right X (Y ++ Z) s (Contains-append_left Y Z s (subst (λ (p : NumberedPair). Contains (stood_in c m p.1.0 a (m p.0.0) p.1.1) s) (sym e) g)))
      h)
      (λ (w : Contains (pairs_from n ps) (k, v)). Contains-append_right X (Y ++ Z) s (Contains-append_right Y Z s (pairs_there ps n a k v s w h)))
      (head_or_later ((i, x), (j, y)) (pairs_from n ps) (k, v) q)

  item_there : (x : Node) (i : ℕ) (a : Around) (b : Bool) (y : NumberedNode) (s : Stood) → Contains (items_of i x) y → Contains (stood_in c m y.0 (held (c i)) false y.1) s
      → Contains (stood_in c m i a b x) s
  item_there (scalar at props style text lines) i a b y s q h = absurd (nothing_in y q)
  item_there (alias at name) i a b y s q h = absurd (nothing_in y q)
  item_there (sequence at flow props items) i a b y s q h =
      is_later (stood i a b) (stood_in_items c m (i + 1) (held (c i)) items) s (items_there items (i + 1) (held (c i)) y s q h)
  item_there (mapping at flow props pairs) i a b y s q h = absurd (nothing_in y q)

  pair_there : (x : Node) (i : ℕ) (a : Around) (b : Bool) (k v : NumberedNode) (s : Stood) → Contains (pairs_of i x) (k, v)
      → Contains (stood_in c m k.0 (held (c i)) false k.1) s ⊎ Contains (stood_in c m v.0 (held (c i)) (m k.0) v.1) s → Contains (stood_in c m i a b x) s
  pair_there (scalar at props style text lines) i a b k v s q h = absurd (nothing_in (k, v) q)
  pair_there (alias at name) i a b k v s q h = absurd (nothing_in (k, v) q)
  pair_there (sequence at flow props items) i a b k v s q h = absurd (nothing_in (k, v) q)
  pair_there (mapping at flow props pairs) i a b k v s q h =
      is_later (stood i a b) (stood_in_pairs c m (i + 1) (held (c i)) pairs) s (pairs_there pairs (i + 1) (held (c i)) k v s q h)

  roots_there : (ds : List DocumentTree) (i : ℕ) (x : NumberedNode) (s : Stood) → Contains (roots_from i ds) x → Contains (stood_in c m x.0 Nothing false x.1) s
      → Contains (stood_in_documents c m i ds) s
  roots_there [] i x s q h = absurd (nothing_in x q)
  roots_there (d ∷ ds) i x s q h =
      let j = i + length (flat_document d) in
      let X = stood_in c m (i + 1) Nothing false d.root in
      let Z = stood_in_documents c m j ds in
      ⊎_elim
      (λ (e : ◌≡◌ {A = NumberedNode} (i + 1, d.root) x). Contains-append_left X Z s (subst (λ (z : NumberedNode). Contains (stood_in c m z.0 Nothing false z.1) s) (sym e) h))
      (λ (w : Contains (roots_from j ds) x). Contains-append_right X Z s (roots_there ds j x s w h))
      (head_or_later (i + 1, d.root) (roots_from j ds) x q)

  module _ (trees : List DocumentTree) where
    -- the results within a node, for some holder, are results of the pass
    abbrev Within : NumberedNode → Type 0
    Within x = (a : Around) × (b : Bool) × ((s : Stood) → Contains (stood_in c m x.0 a b x.1) s → Contains (stood_in_documents c m 1 trees) s)

    within : {x : NumberedNode} → IsNodeOf trees x → Within x
    within {x} (is_root r) = (Nothing, false, λ s h. roots_there trees 1 x s r h)
    within {x = y} (is_inner {x = x} n (as_item q)) =
        let w = within n in (held (c x.0), false, λ s h. w.2 s (item_there x.1 x.0 w.0 w.1 y s q h))
    within {x = y} (is_inner {x = x} n (as_key {v = v} q)) =
        let w = within n in (held (c x.0), false, λ s h. w.2 s (pair_there x.1 x.0 w.0 w.1 y v s q (inl h)))
    within {x = y} (is_inner {x = x} n (as_value {k = k} q)) =
        let w = within n in (held (c x.0), m k.0, λ s h. w.2 s (pair_there x.1 x.0 w.0 w.1 k y s q (inr h)))

    pub held_told : {y : NumberedNode} {a : Around} {b : Bool} → IsHeld c m trees y a b → Contains (stood_in_documents c m 1 trees) (stood y.0 a b)
    held_told {y} (by_nothing r) = roots_there trees 1 y (stood y.0 Nothing false) r (first_there y.0 Nothing false y.1)
    held_told {y} (by_sequence {x = x} n q) =
        let w = within n in let a = held (c x.0) in w.2 (stood y.0 a false) (item_there x.1 x.0 w.0 w.1 y (stood y.0 a false) q (first_there y.0 a false y.1))
    held_told {y} (as_its_key {x = x} {v = v} n q) =
        let w = within n in let a = held (c x.0) in w.2 (stood y.0 a false) (pair_there x.1 x.0 w.0 w.1 y v (stood y.0 a false) q (inl (first_there y.0 a false y.1)))
    held_told {y} (as_its_value {x = x} {k = k} n q) =
        let w = within n in let a = held (c x.0) in
        w.2 (stood y.0 a (m k.0)) (pair_there x.1 x.0 w.0 w.1 k y (stood y.0 a (m k.0)) q (inr (first_there y.0 a (m k.0) y.1)))

-- Keys and values of one node by their indices.

pairs_bound : (ps : Pairs) (i : ℕ) (k v : NumberedNode) → Contains (pairs_from i ps) (k, v) → (i ≤ k.0) × (k.0 < v.0)
pairs_bound no_pairs i k v q = absurd (nothing_in (k, v) q)
pairs_bound (pair x y ps) i k v q =
    let j = i + length (flat x) in
    let n = j + length (flat y) in
    let s = node_size x in
    ⊎_elim
    (λ (e : ◌≡◌ {A = NumberedPair} ((i, x), (j, y)) (k, v)).
    let f = ap (λ (p : NumberedPair). p.0.0) e in let g = ap (λ (p : NumberedPair). p.1.0) e in (omega (arith, f), omega (arith, f, g, s)))
    (λ (w : Contains (pairs_from n ps) (k, v)). let b = pairs_bound ps n k v w in (omega (arith, b.0), b.1))
    (head_or_later ((i, x), (j, y)) (pairs_from n ps) (k, v) q)

one_key : (ps : Pairs) (i : ℕ) (k l v : NumberedNode) → Contains (pairs_from i ps) (k, v) → Contains (pairs_from i ps) (l, v) → k ≡ l
one_key no_pairs i k l v q p = absurd (nothing_in (k, v) q)
one_key (pair x y ps) i k l v q p =
    let j = i + length (flat x) in
    let n = j + length (flat y) in
    let s = node_size y in
    ⊎_elim
    (λ (e : ◌≡◌ {A = NumberedPair} ((i, x), (j, y)) (k, v)). ⊎_elim
    (λ (f : ◌≡◌ {A = NumberedPair} ((i, x), (j, y)) (l, v)). sym (first_same e) ∙ first_same f)
    (λ (w : Contains (pairs_from n ps) (l, v)). absurd (let b = pairs_bound ps n l v w in let g = ap (λ (z : NumberedPair). z.1.0) e in omega (arith, b.0, b.1, g, s)))
    (head_or_later ((i, x), (j, y)) (pairs_from n ps) (l, v) p))
    (λ (u : Contains (pairs_from n ps) (k, v)). ⊎_elim
    (λ (f : ◌≡◌ {A = NumberedPair} ((i, x), (j, y)) (l, v)). absurd (let b = pairs_bound ps n k v u in let g = ap (λ (z : NumberedPair). z.1.0) f in omega (arith, b.0, b.1, g, s)))
    (λ (w : Contains (pairs_from n ps) (l, v)). one_key ps n k l v u w)
    (head_or_later ((i, x), (j, y)) (pairs_from n ps) (l, v) p))
    (head_or_later ((i, x), (j, y)) (pairs_from n ps) (k, v) q)

no_key_value : (ps : Pairs) (i : ℕ) (k l v : NumberedNode) → Contains (pairs_from i ps) (k, v) → Contains (pairs_from i ps) (l, k) → ⊥
no_key_value no_pairs i k l v q p = nothing_in (k, v) q
no_key_value (pair x y ps) i k l v q p =
    let j = i + length (flat x) in
    let n = j + length (flat y) in
    let s = node_size x in
    let z = node_size y in
    ⊎_elim
    (λ (e : ◌≡◌ {A = NumberedPair} ((i, x), (j, y)) (k, v)). let g = ap (λ (z : NumberedPair). z.0.0) e in ⊎_elim
    (λ (f : ◌≡◌ {A = NumberedPair} ((i, x), (j, y)) (l, k)). let h = ap (λ (z : NumberedPair). z.1.0) f in omega (arith, g, h, s))
    (λ (w : Contains (pairs_from n ps) (l, k)). let b = pairs_bound ps n l k w in omega (arith, b.0, b.1, g, s))
    (head_or_later ((i, x), (j, y)) (pairs_from n ps) (l, k) p))
    (λ (u : Contains (pairs_from n ps) (k, v)). ⊎_elim
    (λ (f : ◌≡◌ {A = NumberedPair} ((i, x), (j, y)) (l, k)). let b = pairs_bound ps n k v u in let h = ap (λ (z : NumberedPair). z.1.0) f in omega (arith, b.0, h, z))
    (λ (w : Contains (pairs_from n ps) (l, k)). no_key_value ps n k l v u w)
    (head_or_later ((i, x), (j, y)) (pairs_from n ps) (l, k) p))
    (head_or_later ((i, x), (j, y)) (pairs_from n ps) (k, v) q)

-- a value of a node has one key
pub sole_key : (x : Node) (i : ℕ) (k l v : NumberedNode) → Contains (pairs_of i x) (k, v) → Contains (pairs_of i x) (l, v) → k ≡ l
sole_key (scalar at props style text lines) i k l v q p = absurd (nothing_in (k, v) q)
sole_key (alias at name) i k l v q p = absurd (nothing_in (k, v) q)
sole_key (sequence at flow props items) i k l v q p = absurd (nothing_in (k, v) q)
sole_key (mapping at flow props pairs) i k l v q p = one_key pairs (i + 1) k l v q p

-- no key of a node is a value or an item of it
pub key_no_value : (x : Node) (i : ℕ) (k l v : NumberedNode) → Contains (pairs_of i x) (k, v) → Contains (pairs_of i x) (l, k) → ⊥
key_no_value (scalar at props style text lines) i k l v q p = nothing_in (k, v) q
key_no_value (alias at name) i k l v q p = nothing_in (k, v) q
key_no_value (sequence at flow props items) i k l v q p = nothing_in (k, v) q
key_no_value (mapping at flow props pairs) i k l v q p = no_key_value pairs (i + 1) k l v q p

pub item_no_value : (x : Node) (i : ℕ) (k y : NumberedNode) → Contains (items_of i x) y → Contains (pairs_of i x) (k, y) → ⊥
item_no_value (scalar at props style text lines) i k y q p = nothing_in y q
item_no_value (alias at name) i k y q p = nothing_in y q
item_no_value (sequence at flow props items) i k y q p = nothing_in (k, y) p
item_no_value (mapping at flow props pairs) i k y q p = nothing_in y q
