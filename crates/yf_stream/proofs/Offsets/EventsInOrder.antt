-- The nodes of a reading begin in text order.
use Rattle.std.proofs.Common.{◌≡◌, ℕ, ◌≤◌, List, [], ◌∷◌, ◌++◌, flat_map, Option, refl, sym, subst, arith, append_assoc}
use Rattle.yf_events.specs.Event.{EventInText, document_ends, mapping_ends, sequence_ends}
use Rattle.yf_events.specs.Tree.{DocumentTree, flat, flat_document, flat_items, flat_pairs, flat_stream, unplaced, Items, Node, Pairs}
use Rattle.yf_events.specs.declared.document.Doc.{Doc}
use Rattle.yf_grammar.specs.Productions.Meaning.{from_to}
use Rattle.yf_grammar.proofs.NodesInText.NodePlaces.{ColonIsAt, ItemsStand, NodeIsAt, PairsStand, a_colon, alias_is_at, item_is_at, mapping_is_at, no_colon, no_items_stand, no_pairs_stand, pair_is_at, scalar_is_at, sequence_is_at, is_at_nowhere, colon_order}
use Rattle.yf_stream.specs.LeafPass.{BeginInOrder, begins, no_events, no_place}
use Rattle.yf_stream.proofs.Offsets.DirectiveOrder.{directives_order}
use Rattle.yf_stream.proofs.LeafPass.LeafLemmas.{sooner}
use Rattle.yf_stream.proofs.Offsets.ReadingTrees.{TreesStand, no_trees_stand, tree_is_at}

moved : {i : ℕ} {x y : List EventInText} → x ≡ y → BeginInOrder i y → BeginInOrder i x
moved {i} e b = subst (λ z. BeginInOrder i z) (sym e) b

mutual
  unfolding from_to

  node_in_order : {t : List ℕ} {i j : ℕ} {x : Node} {rest : List EventInText} → NodeIsAt t i j x → BeginInOrder j rest → BeginInOrder i (flat x ++ rest)
  node_in_order (is_at_nowhere l e) r = no_place e (sooner l r)
  node_in_order (scalar_is_at e b m n w s) r = begins _ e b.order (sooner (omega arith) r)
  node_in_order (alias_is_at e b m n s) r = begins _ e b.order (sooner (omega arith) r)
  node_in_order {rest = rest} (sequence_is_at {xs = xs} e b m n s) r =
      begins _ e b.order (sooner b.inner (moved (append_assoc (flat_items xs) (unplaced sequence_ends ∷ []) rest) (items_in_order m (no_place refl (sooner n r)))))
  node_in_order {rest = rest} (mapping_is_at {ps = ps} e b m n s) r =
      begins _ e b.order (sooner b.inner (moved (append_assoc (flat_pairs ps) (unplaced mapping_ends ∷ []) rest) (pairs_in_order m (no_place refl (sooner n r)))))

  items_in_order : {t : List ℕ} {i j : ℕ} {xs : Items} {rest : List EventInText} → ItemsStand t i j xs → BeginInOrder j rest → BeginInOrder i (flat_items xs ++ rest)
  items_in_order (no_items_stand l) r = sooner l r
  items_in_order {rest = rest} (item_is_at {x = x} {xs = xs} e q m a b) r =
      sooner m.order (moved (append_assoc (flat x) (flat_items xs) rest) (node_in_order a (items_in_order b r)))

  pairs_in_order : {t : List ℕ} {i j : ℕ} {ps : Pairs} {rest : List EventInText} → PairsStand t i j ps → BeginInOrder j rest → BeginInOrder i (flat_pairs ps ++ rest)
  pairs_in_order (no_pairs_stand l) r = sooner l r
  pairs_in_order {rest = rest} (pair_is_at {k = k} {v = v} {ps = ps} e q m a c b d) r =
      sooner m.order
      (moved (append_assoc (flat k) (flat v ++ flat_pairs ps) rest)
      (node_in_order a (sooner (colon_order c) (moved (append_assoc (flat v) (flat_pairs ps) rest) (node_in_order b (pairs_in_order d r))))))

documents_in_order : {t : List ℕ} {i : ℕ} {ds : List Doc} {trees : List DocumentTree} {rest : List EventInText} → TreesStand t i ds trees → ((j : ℕ) → BeginInOrder j rest)
    → BeginInOrder i (flat_map flat_document trees ++ rest)
documents_in_order {i = i} (no_trees_stand l) r = r i
documents_in_order {rest = rest} (tree_is_at {tree = tree} {trees = trees} d n more z) r =
    let end = unplaced (document_ends tree.closed) ∷ [] in
    let others = flat_map flat_document trees ++ rest in
    moved (append_assoc (flat_document tree) (flat_map flat_document trees) rest)
    (no_place refl (sooner (directives_order d) (moved (append_assoc (flat tree.root) end others) (node_in_order n (no_place refl (documents_in_order more r))))))

-- the events of trees in a text begin in its order
pub events_in_order : {t : List ℕ} {ds : List Doc} {trees : List DocumentTree} → TreesStand t 0 ds trees → BeginInOrder 0 (flat_stream trees)
events_in_order s = no_place refl (documents_in_order s (λ j. no_place refl no_events))
