-- The events of trees that are in a text have as many bytes as the trees are counted with.
use Rattle.std.proofs.Common.{◌≡◌, ℕ, suc, ◌+◌, ◌≤◌, Bool, true, false, List, [], ◌∷◌, ◌++◌, length, Option, Some, ap, arith, append_assoc}
use Rattle.yf_events.specs.Event.{EventInText, mapping_ends, sequence_ends}
use Rattle.yf_events.specs.Tree.{Node, scalar, alias, sequence, mapping, Items, no_items, item, Pairs, no_pairs, pair, flat, flat_items, flat_pairs, standing, unplaced}
use Rattle.yf_events.specs.declared.event.Entry.{Entry}
use Rattle.yf_grammar.proofs.NodesInText.NodePlaces.{NodeIsAt, is_at_nowhere, scalar_is_at, alias_is_at, sequence_is_at, mapping_is_at, ItemsStand, no_items_stand, item_is_at, PairsStand, no_pairs_stand, pair_is_at}
use Rattle.yf_laws.proofs.Size.Weights.{entry_weight, props_weight, text_weight, weigh, weigh_least}

-- a node, without the byte of the entry that it begins
abbrev mutual
  pub bulk : Node → ℕ
  bulk (scalar at props style text lines) = props_weight props + text_weight style text lines
  bulk (alias at name) = suc (length name)
  bulk (sequence at flow props no_items) = props_weight props + 1
  bulk (sequence at flow props (item x xs)) = props_weight props + (suc (bulk x) + items_bulk xs)
  bulk (mapping at flow props no_pairs) = props_weight props + 1
  bulk (mapping at flow props (pair k v ps)) = props_weight props + (suc (bulk k + bulk v) + pairs_bulk ps)

  pub items_bulk : Items → ℕ
  items_bulk no_items = 0
  items_bulk (item x xs) = suc (bulk x) + items_bulk xs

  pub pairs_bulk : Pairs → ℕ
  pairs_bulk no_pairs = 0
  pairs_bulk (pair k v ps) = suc (bulk k + bulk v) + pairs_bulk ps

entered_one : (o : Option Entry) (e : Entry) → o ≡ Some e → entry_weight o ≡ 1
entered_one o e q = ap entry_weight q

mutual
  node_heavy : {t : List ℕ} {i j : ℕ} {x : Node} → NodeIsAt t i j x → (after : Bool) (rest : List EventInText) → bulk x + (entry_weight (standing x).entry + weigh false rest) ≤ weigh after (flat x ++ rest)
  node_heavy (is_at_nowhere m e) after rest = omega arith
  node_heavy (scalar_is_at e b l m w s) after rest = omega arith
  node_heavy (alias_is_at e b l m s) after rest = omega arith
  node_heavy (sequence_is_at e b (no_items_stand l) m s) after rest = omega arith
  node_heavy (sequence_is_at e b (item_is_at {x = x} {xs = xs} f q l a c) m s) after rest =
      let end : EventInText = unplaced sequence_ends in
      let inner = items_heavy (item_is_at f q l a c) true (end ∷ rest) in
      let same : weigh true ((flat_items (item x xs) ++ (end ∷ [])) ++ rest) ≡ weigh true (flat_items (item x xs) ++ (end ∷ rest)) = ap (weigh true) (append_assoc (flat_items (item x xs)) (end ∷ []) rest) in
      omega (arith, inner, same)
  node_heavy (mapping_is_at e b (no_pairs_stand l) m s) after rest = omega arith
  node_heavy (mapping_is_at e b (pair_is_at {k = k} {v = v} {ps = ps} f q l a c d g) m s) after rest =
      let end : EventInText = unplaced mapping_ends in
      let inner = pairs_heavy (pair_is_at f q l a c d g) true (end ∷ rest) in
      let same : weigh true ((flat_pairs (pair k v ps) ++ (end ∷ [])) ++ rest) ≡ weigh true (flat_pairs (pair k v ps) ++ (end ∷ rest)) = ap (weigh true) (append_assoc (flat_pairs (pair k v ps)) (end ∷ []) rest) in
      omega (arith, inner, same)

  items_heavy : {t : List ℕ} {i j : ℕ} {xs : Items} → ItemsStand t i j xs → (after : Bool) (rest : List EventInText) → items_bulk xs + weigh false rest ≤ weigh after (flat_items xs ++ rest)
  items_heavy (no_items_stand l) after rest = let m = weigh_least after rest in omega (arith, m)
  items_heavy (item_is_at {x = x} {xs = xs} f q l a c) after rest =
      let one = node_heavy a after (flat_items xs ++ rest) in
      let more = items_heavy c false rest in
      let entry = entered_one (standing x).entry f q in
      let same : weigh after ((flat x ++ flat_items xs) ++ rest) ≡ weigh after (flat x ++ (flat_items xs ++ rest)) = ap (weigh after) (append_assoc (flat x) (flat_items xs) rest) in
      omega (arith, one, more, entry, same)

  pairs_heavy : {t : List ℕ} {i j : ℕ} {ps : Pairs} → PairsStand t i j ps → (after : Bool) (rest : List EventInText) → pairs_bulk ps + weigh false rest ≤ weigh after (flat_pairs ps ++ rest)
  pairs_heavy (no_pairs_stand l) after rest = let m = weigh_least after rest in omega (arith, m)
  pairs_heavy (pair_is_at {k = k} {v = v} {ps = ps} f q l a c d g) after rest =
      let one = node_heavy a after (flat v ++ (flat_pairs ps ++ rest)) in
      let two = node_heavy d false (flat_pairs ps ++ rest) in
      let more = pairs_heavy g false rest in
      let entry = entered_one (standing k).entry f q.key in
      let inner = append_assoc (flat v) (flat_pairs ps) rest in
      let same : weigh after ((flat k ++ (flat v ++ flat_pairs ps)) ++ rest) ≡ weigh after (flat k ++ ((flat v ++ flat_pairs ps) ++ rest)) = ap (weigh after) (append_assoc (flat k) (flat v ++ flat_pairs ps) rest) in
      let next : weigh after (flat k ++ ((flat v ++ flat_pairs ps) ++ rest)) ≡ weigh after (flat k ++ (flat v ++ (flat_pairs ps ++ rest))) = ap (λ z. weigh after (flat k ++ z)) inner in
      omega (arith, one, two, more, entry, same, next)

pub tree_heavy : {t : List ℕ} {i j : ℕ} {x : Node} → NodeIsAt t i j x → (rest : List EventInText) → bulk x + weigh false rest ≤ weigh false (flat x ++ rest)
tree_heavy a rest = let l = node_heavy a false rest in omega (arith, l)
