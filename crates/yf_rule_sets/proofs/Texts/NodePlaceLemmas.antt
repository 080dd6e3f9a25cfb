-- The nodes of trees are among the events at their indices.
use Rattle.std.proofs.Common.{◌≡◌, ℕ, ◌+◌, List, [], ◌∷◌, ◌++◌, length, refl, subst, ⊎_elim}
use Rattle.std.specs.List.{Contains}
use Rattle.std.specs.Prelude.{flat_map}
use Rattle.yf_forms.specs.Nodes.SingleNodes.{NodeAt}
use Rattle.yf_forms.proofs.Decide.AmongLemmas.{Among, back, after_first, front, node_at}
use Rattle.yf_events.specs.Event.{EventInText, document_ends, mapping_ends, sequence_ends, stream_ends, stream_starts}
use Rattle.yf_events.specs.Tree.{Node, scalar, alias, sequence, mapping, Items, no_items, item, Pairs, no_pairs, pair, DocumentTree, TreesOf, flat, flat_items, flat_pairs, flat_document, unplaced}
use Rattle.yf_events.specs.declared.lists.Lists.{Lists}
use Rattle.yf_rule_sets.proofs.RuleSets.KeySetLemmas.{head_or_later, nothing_in}
use Rattle.yf_rule_sets.specs.RuleSets.Nodes.{NumberedNode, NumberedPair, IsNodeOf, items_from, items_of, pairs_from, pairs_of, roots_from}
use Rattle.yf_rule_sets.specs.RuleSets.Nodes.IsChildOf.{as_item, as_key, as_value}
use Rattle.yf_rule_sets.specs.RuleSets.Nodes.IsNodeOf.{is_root, is_inner}

items_there : {es : List EventInText} (xs : Items) (i : ℕ) (y : NumberedNode) → Among es (flat_items xs) i → Contains (items_from i xs) y → NodeAt es y.0 y.1
items_there no_items i y a c = absurd (nothing_in y c)
items_there {es} (item x xs) i y a c =
    let j = i + length (flat x) in
    ⊎_elim (λ (e : ◌≡◌ {A = NumberedNode} (i, x) y). subst (λ (z : NumberedNode). NodeAt es z.0 z.1) e (node_at x (front (flat x) (flat_items xs) a)))
    (λ (w : Contains (items_from j xs) y). items_there xs j y (back (flat x) (flat_items xs) a) w)
    (head_or_later (i, x) (items_from j xs) y c)

pairs_there : {es : List EventInText} (ps : Pairs) (i : ℕ) (p : NumberedPair) → Among es (flat_pairs ps) i → Contains (pairs_from i ps) p → NodeAt es p.0.0 p.0.1 × NodeAt es p.1.0 p.1.1
pairs_there no_pairs i p a c = absurd (nothing_in p c)
pairs_there {es} (pair k v ps) i p a c =
    let j = i + length (flat k) in
    let n = j + length (flat v) in
    let b = back (flat k) (flat v ++ flat_pairs ps) a in
    ⊎_elim
    (λ (e : ◌≡◌ {A = NumberedPair} ((i, k), (j, v)) p). subst (λ (z : NumberedPair). NodeAt es z.0.0 z.0.1 × NodeAt es z.1.0 z.1.1) e
    (node_at k (front (flat k) (flat v ++ flat_pairs ps) a), node_at v (front (flat v) (flat_pairs ps) b)))
    (λ (w : Contains (pairs_from n ps) p). pairs_there ps n p (back (flat v) (flat_pairs ps) b) w)
    (head_or_later ((i, k), (j, v)) (pairs_from n ps) p c)

item_there : {es : List EventInText} (x : Node) (i : ℕ) (y : NumberedNode) → NodeAt es i x → Contains (items_of i x) y → NodeAt es y.0 y.1
item_there (scalar at props style text lines) i y n c = absurd (nothing_in y c)
item_there (alias at name) i y n c = absurd (nothing_in y c)
item_there (sequence at flow props items) i y n c = items_there items (i + 1) y
    (front (flat_items items) (unplaced sequence_ends ∷ []) (after_first _ (flat_items items ++ (unplaced sequence_ends ∷ []))
    (record { before = n.before; after = n.after; is = n.is; index = n.index }))) c
item_there (mapping at flow props pairs) i y n c = absurd (nothing_in y c)

pair_there : {es : List EventInText} (x : Node) (i : ℕ) (p : NumberedPair) → NodeAt es i x → Contains (pairs_of i x) p → NodeAt es p.0.0 p.0.1 × NodeAt es p.1.0 p.1.1
pair_there (scalar at props style text lines) i p n c = absurd (nothing_in p c)
pair_there (alias at name) i p n c = absurd (nothing_in p c)
pair_there (sequence at flow props items) i p n c = absurd (nothing_in p c)
pair_there (mapping at flow props pairs) i p n c = pairs_there pairs (i + 1) p
    (front (flat_pairs pairs) (unplaced mapping_ends ∷ []) (after_first _ (flat_pairs pairs ++ (unplaced mapping_ends ∷ []))
    (record { before = n.before; after = n.after; is = n.is; index = n.index }))) c

roots_there : {es : List EventInText} (ds : List DocumentTree) (i : ℕ) (y : NumberedNode) → Among es (flat_map flat_document ds) i → Contains (roots_from i ds) y → NodeAt es y.0 y.1
roots_there [] i y a c = absurd (nothing_in y c)
roots_there {es} (d ∷ ds) i y a c =
    let j = i + length (flat_document d) in
    let end = unplaced (document_ends d.closed) in
    let b = front (flat_document d) (flat_map flat_document ds) a in
    ⊎_elim
    (λ (e : ◌≡◌ {A = NumberedNode} (i + 1, d.root) y). subst (λ (z : NumberedNode). NodeAt es z.0 z.1) e
    (node_at d.root (front (flat d.root) (end ∷ []) (after_first _ (flat d.root ++ (end ∷ [])) b))))
    (λ (w : Contains (roots_from j ds) y). roots_there ds j y (back (flat_document d) (flat_map flat_document ds) a) w)
    (head_or_later (i + 1, d.root) (roots_from j ds) y c)

pub node_there : {r : Lists} {trees : List DocumentTree} {y : NumberedNode} → TreesOf r trees → IsNodeOf trees y → NodeAt r.events y.0 y.1
node_there {trees = trees} {y = y} t (is_root c) = roots_there trees 1 y
    (record { before = unplaced stream_starts ∷ []; after = unplaced stream_ends ∷ []; is = t.events; index = refl }) c
node_there {y = y} t (is_inner {x = x} s (as_item c)) = item_there x.1 x.0 y (node_there t s) c
node_there {y = y} t (is_inner {x = x} s (as_key {v = v} c)) = (pair_there x.1 x.0 (y, v) (node_there t s) c).0
node_there {y = y} t (is_inner {x = x} s (as_value {k = k} c)) = (pair_there x.1 x.0 (k, y) (node_there t s) c).1
