-- In trees that are in a text the key of each pair begins an entry, and its value doesn't.
use Rattle.std.proofs.Common.{◌≡◌, ℕ, true, List, refl, ap}
use Rattle.std.proofs.lemmas.Bool.{and_from}
use Rattle.yf_events.specs.Tree.{Node, Items, Pairs, DocumentTree}
use Rattle.yf_events.specs.declared.document.Doc.{Doc}
use Rattle.yf_grammar.proofs.NodesInText.NodePlaces.{NodeIsAt, is_at_nowhere, scalar_is_at, alias_is_at, sequence_is_at, mapping_is_at, ItemsStand, no_items_stand, item_is_at, PairsStand, no_pairs_stand, pair_is_at}
use Rattle.yf_stream.proofs.Offsets.ReadingTrees.{TreesStand, no_trees_stand, tree_is_at}
use Rattle.yf_laws.proofs.OfTexts.KeyEntries.{keys_begin, keys_begin_in_items, keys_begin_in_pairs, keys_begin_in_documents, no_entry}

mutual
  node_begins : {t : List ℕ} {i j : ℕ} {x : Node} → NodeIsAt t i j x → keys_begin x ≡ true
  node_begins (is_at_nowhere m e) = refl
  node_begins (scalar_is_at e b l m w s) = refl
  node_begins (alias_is_at e b l m s) = refl
  node_begins (sequence_is_at e b a m s) = items_begin a
  node_begins (mapping_is_at e b a m s) = pairs_begin a

  items_begin : {t : List ℕ} {i j : ℕ} {xs : Items} → ItemsStand t i j xs → keys_begin_in_items xs ≡ true
  items_begin (no_items_stand l) = refl
  items_begin (item_is_at e q l a b) = and_from _ _ (node_begins a) (items_begin b)

  pairs_begin : {t : List ℕ} {i j : ℕ} {ps : Pairs} → PairsStand t i j ps → keys_begin_in_pairs ps ≡ true
  pairs_begin (no_pairs_stand l) = refl
  pairs_begin (pair_is_at e q l a c b d) = and_from _ _ (node_begins a) (and_from _ _ (ap no_entry q.value) (and_from _ _ (node_begins b) (pairs_begin d)))

pub trees_begin : {t : List ℕ} {i : ℕ} {ds : List Doc} {trees : List DocumentTree} → TreesStand t i ds trees → keys_begin_in_documents trees ≡ true
trees_begin (no_trees_stand l) = refl
trees_begin (tree_is_at d a b z) = and_from _ _ (node_begins a) (trees_begin b)
