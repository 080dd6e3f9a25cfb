-- The starts of the leaves of trees that are in a text rise.
use Rattle.std.proofs.Common.{◌≡◌, ℕ, ◌<◌, ◌≤◌, true, List, [], ◌∷◌, ◌++◌, length, Option, refl, sym, subst, arith}
use Rattle.std.specs.Prelude.{nat_lt}
use Rattle.std.specs.List.{list_all}
use Rattle.std.proofs.lemmas.Bool.{and_from}
use Rattle.yf_events.specs.Tree.{Node, Items, Pairs, DocumentTree, leaves, leaves_of_items, leaves_of_pairs, spans_of_leaf}
use Rattle.yf_events.specs.declared.document.Doc.{Doc}
use Rattle.yf_events.specs.declared.event.Span.{Span}
use Rattle.yf_grammar.specs.Productions.Meaning.{from_to}
use Rattle.yf_grammar.proofs.NodesInText.NodePlaces.{NodeIsAt, is_at_nowhere, scalar_is_at, alias_is_at, sequence_is_at, mapping_is_at, ItemsStand, no_items_stand, item_is_at, PairsStand, no_pairs_stand, pair_is_at, colon_order}
use Rattle.yf_stream.proofs.Offsets.DirectiveOrder.{directives_order}
use Rattle.yf_stream.proofs.Offsets.ReadingTrees.{TreesStand, no_trees_stand, tree_is_at}
use Rattle.yf_laws.proofs.Trails.DocumentTrails.{leaves_of}
use Rattle.yf_laws.proofs.Trails.TrailChoice.{rising}
use Rattle.yf_chars.proofs.Tests.{below}

-- leaves between two offsets, each after the end of the one before it
pub data Steps : ℕ → List Span → ℕ → Type 0 where
  no_step : {i j : ℕ} → i ≤ j → Steps i [] j
  a_step : {i j : ℕ} {s : Span} {ss : List Span} → i ≤ s.start → s.start < s.end → Steps s.end ss j → Steps i (s ∷ ss) j

pub steps_order : {i j : ℕ} {ss : List Span} → Steps i ss j → i ≤ j
steps_order (no_step l) = l
steps_order (a_step l m a) = let n = steps_order a in omega (arith, l, m, n)

pub steps_after : {h i j : ℕ} {ss : List Span} → h ≤ i → Steps i ss j → Steps h ss j
steps_after l (no_step m) = no_step (omega (arith, l, m))
steps_after l (a_step m n a) = a_step (omega (arith, l, m)) n a

steps_join : {i k j : ℕ} {xs ys : List Span} → Steps i xs k → Steps k ys j → Steps i (xs ++ ys) j
steps_join (no_step l) b = steps_after l b
steps_join (a_step l m a) b = a_step l m (steps_join a b)

steps_to : {h i k j : ℕ} {ss : List Span} → h ≤ i → k ≤ j → Steps i ss k → Steps h ss j
steps_to l m (no_step n) = no_step (omega (arith, l, m, n))
steps_to l m (a_step n w a) = a_step (omega (arith, l, n)) w (steps_to (omega arith) m a)

-- the starts of such leaves rise

all_later : {n j : ℕ} {ss : List Span} (m : ℕ) → m < n → Steps n ss j → list_all (λ (r : Span). nat_lt m r.start) ss ≡ true
all_later m l (no_step k) = refl
all_later {ss = s ∷ ss} m l (a_step k w a) =
    let far : m < s.end = omega (arith, l, k, w) in and_from _ _ (below m s.start (omega (arith, l, k))) (all_later m far a)

steps_rise : {i j : ℕ} {ss : List Span} → Steps i ss j → rising ss ≡ true
steps_rise (no_step l) = refl
steps_rise {ss = s ∷ ss} (a_step l w a) = and_from _ _ (all_later s.start w a) (steps_rise a)

-- The leaves of trees.

leaf_steps : {i j : ℕ} (a b : ℕ) (o : Option Span) → o ≡ from_to a b → i ≤ a → a < b → b ≤ j → Steps i (spans_of_leaf o) j
unfolding from_to
leaf_steps {i} {j} a b o e l w m = subst (λ z. Steps i (spans_of_leaf z) j) (sym e) (a_step l w (no_step m))

mutual
  pub node_steps : {t : List ℕ} {i j : ℕ} {x : Node} → NodeIsAt t i j x → Steps i (leaves x) j
  node_steps {i = i} {j = j} (is_at_nowhere m e) = subst (λ w. Steps i (spans_of_leaf w) j) (sym e) (no_step m)
  node_steps (scalar_is_at {at = at} e b l m w s) = leaf_steps _ _ at.span e b.order l m
  node_steps (alias_is_at {at = at} e b l m s) = leaf_steps _ _ at.span e b.order l m
  node_steps (sequence_is_at {at = at} e b (no_items_stand l) m s) = leaf_steps _ _ at.span e b.order (omega (arith, b.inner, b.wide)) m
  node_steps (sequence_is_at e b (item_is_at f q l a c) m s) = steps_to (omega (arith, b.order, b.inner)) m (items_steps (item_is_at f q l a c))
  node_steps (mapping_is_at {at = at} e b (no_pairs_stand l) m s) = leaf_steps _ _ at.span e b.order (omega (arith, b.inner, b.wide)) m
  node_steps (mapping_is_at e b (pair_is_at f q l a c d g) m s) = steps_to (omega (arith, b.order, b.inner)) m (pairs_steps (pair_is_at f q l a c d g))

  pub items_steps : {t : List ℕ} {i j : ℕ} {xs : Items} → ItemsStand t i j xs → Steps i (leaves_of_items xs) j
  items_steps (no_items_stand l) = no_step l
  items_steps (item_is_at f q l a c) = steps_join (steps_after l.order (node_steps a)) (items_steps c)

  pub pairs_steps : {t : List ℕ} {i j : ℕ} {ps : Pairs} → PairsStand t i j ps → Steps i (leaves_of_pairs ps) j
  pairs_steps (no_pairs_stand l) = no_step l
  pairs_steps (pair_is_at f q l a c d g) = steps_join (steps_after l.order (node_steps a)) (steps_after (colon_order c) (steps_join (node_steps d) (pairs_steps g)))

trees_steps : {t : List ℕ} {i : ℕ} {ds : List Doc} {trees : List DocumentTree} → TreesStand t i ds trees → Steps i (leaves_of trees) (length t)
trees_steps (no_trees_stand l) = no_step l
trees_steps (tree_is_at d a b z) = steps_after (directives_order d) (steps_join (node_steps a) (trees_steps b))

pub leaves_rise : {t : List ℕ} {i : ℕ} {ds : List Doc} {trees : List DocumentTree} → TreesStand t i ds trees → rising (leaves_of trees) ≡ true
leaves_rise a = steps_rise (trees_steps a)
