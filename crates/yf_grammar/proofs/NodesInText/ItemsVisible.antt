-- The items of a tree in a text, which are the starts of its entries and of its leaves with characters, are visible
-- characters.
use Rattle.std.proofs.Common.{◌≡◌, ℕ, suc, zero, ◌<◌, List, [], ◌∷◌, ◌++◌, length, map, Option, Some, None, sym, subst, arith}
use Rattle.std.specs.Prelude.{slice_index_or}
use Rattle.yf_events.specs.declared.event.Entry.{Entry}
use Rattle.yf_events.specs.declared.event.Span.{Span}
use Rattle.yf_events.specs.Tree.{Node, Items, Pairs, starts_of_entry, spans_of_leaf, items_in, items_in_items, items_in_pairs}
use Rattle.yf_grammar.specs.Productions.Meaning.{from_to}
use Rattle.yf_grammar.proofs.Ends.GapLemmas.{Visible}
use Rattle.yf_grammar.proofs.NodesInText.NodePlaces.{NodeIsAt, is_at_nowhere, scalar_is_at, alias_is_at, sequence_is_at, mapping_is_at, ItemsStand, no_items_stand, item_is_at, PairsStand, no_pairs_stand, pair_is_at}

pub data AllVisible (t : List ℕ) : List ℕ → Type 0 where
  none_visible : AllVisible t []
  more_visible : {i : ℕ} {is : List ℕ} → Visible t i → AllVisible t is → AllVisible t (i ∷ is)

pub visible_join : {t : List ℕ} {x y : List ℕ} → AllVisible t x → AllVisible t y → AllVisible t (x ++ y)
visible_join none_visible b = b
visible_join (more_visible v a) b = more_visible v (visible_join a b)

pub visible_at : {t : List ℕ} (is : List ℕ) → AllVisible t is → (k d : ℕ) → k < length is → Visible t (slice_index_or is k d)
visible_at [] a k d l = absurd (omega arith)
visible_at (i ∷ is) (more_visible v a) zero d l = v
visible_at (i ∷ is) (more_visible v a) (suc k) d l = visible_at is a k d (omega arith)

leaf_visible : {t : List ℕ} {o : Option Span} (a b : ℕ) → o ≡ from_to a b → Visible t a → AllVisible t (map (λ s. s.start) (spans_of_leaf o))
unfolding from_to
leaf_visible {t} a b e v = subst (λ z. AllVisible t (map (λ s. s.start) (spans_of_leaf z))) (sym e) (more_visible v none_visible)

nowhere_visible : {t : List ℕ} {o : Option Span} → o ≡ None → AllVisible t (map (λ s. s.start) (spans_of_leaf o))
nowhere_visible {t} e = subst (λ z. AllVisible t (map (λ s. s.start) (spans_of_leaf z))) (sym e) none_visible

entry_visible : {t : List ℕ} {o : Option Entry} (e : Entry) → o ≡ Some e → Visible t e.start → AllVisible t (starts_of_entry o)
entry_visible {t} e q v = subst (λ z. AllVisible t (starts_of_entry z)) (sym q) (more_visible v none_visible)

mutual
  pub node_visible : {t : List ℕ} {i j : ℕ} {x : Node} → NodeIsAt t i j x → AllVisible t (items_in x)
  node_visible (is_at_nowhere m e) = nowhere_visible e
  node_visible (scalar_is_at e b l m w s) = leaf_visible _ _ e b.visible
  node_visible (alias_is_at e b l m s) = leaf_visible _ _ e b.visible
  node_visible (sequence_is_at e b (no_items_stand l) m s) = leaf_visible _ _ e b.visible
  node_visible (sequence_is_at e b (item_is_at f q l a c) m s) =
      visible_join (entry_visible f q l.visible) (visible_join (node_visible a) (items_visible c))
  node_visible (mapping_is_at e b (no_pairs_stand l) m s) = leaf_visible _ _ e b.visible
  node_visible (mapping_is_at e b (pair_is_at f q l a c d g) m s) =
      visible_join (entry_visible f q.key l.visible) (visible_join (node_visible a) (visible_join (node_visible d) (pairs_visible g)))

  items_visible : {t : List ℕ} {i j : ℕ} {xs : Items} → ItemsStand t i j xs → AllVisible t (items_in_items xs)
  items_visible (no_items_stand l) = none_visible
  items_visible (item_is_at f q l a c) = visible_join (entry_visible f q l.visible) (visible_join (node_visible a) (items_visible c))

  pairs_visible : {t : List ℕ} {i j : ℕ} {ps : Pairs} → PairsStand t i j ps → AllVisible t (items_in_pairs ps)
  pairs_visible (no_pairs_stand l) = none_visible
  pairs_visible (pair_is_at f q l a c d g) =
      visible_join (entry_visible f q.key l.visible) (visible_join (node_visible a) (visible_join (node_visible d) (pairs_visible g)))
