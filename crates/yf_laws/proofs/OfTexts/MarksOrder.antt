-- The offsets of trees that are in a text are in order.
use Rattle.std.proofs.Common.{◌≡◌, ℕ, suc, zero, ◌<◌, ◌≤◌, List, [], ◌∷◌, ◌++◌, map, length, Option, Some, sym, subst, arith}
use Rattle.std.specs.Prelude.{option_to_list, slice_index_or}
use Rattle.yf_events.specs.declared.directive.Directive.{Directive}
use Rattle.yf_events.specs.declared.document.Doc.{Doc}
use Rattle.yf_events.specs.declared.event.Entry.{Entry}
use Rattle.yf_events.specs.declared.event.Span.{Span}
use Rattle.yf_events.specs.Tree.{Node, Items, Pairs, DocumentTree, starts_of_entry}
use Rattle.yf_grammar.specs.Productions.Meaning.{from_to}
use Rattle.yf_grammar.proofs.NodesInText.NodePlaces.{ColonIsAt, no_colon, a_colon, NodeIsAt, is_at_nowhere, scalar_is_at, alias_is_at, sequence_is_at, mapping_is_at, ItemsStand, no_items_stand, item_is_at, PairsStand, no_pairs_stand, pair_is_at}
use Rattle.yf_stream.proofs.Offsets.DirectiveOrder.{DirectivesStand, no_directives_stand, directive_is_at}
use Rattle.yf_stream.proofs.Offsets.ReadingTrees.{TreesStand, no_trees_stand, tree_is_at}
use Rattle.yf_laws.specs.NormalForms.OfText.{around, marks_in, marks_in_items, marks_in_pairs, marks_in_documents}
use Rattle.yf_print.specs.Layouts.Rows.{colon_offset}

-- offsets in order, from one up to another
pub data Rises : ℕ → List ℕ → ℕ → Type 0 where
  no_place : {i j : ℕ} → i ≤ j → Rises i [] j
  a_place : {i k j : ℕ} {ms : List ℕ} → i ≤ k → Rises k ms j → Rises i (k ∷ ms) j

pub rises_after : {h i j : ℕ} {ms : List ℕ} → h ≤ i → Rises i ms j → Rises h ms j
rises_after l (no_place m) = no_place (omega arith)
rises_after l (a_place m a) = a_place (omega arith) a

pub rises_join : {i k j : ℕ} {ms ns : List ℕ} → Rises i ms k → Rises k ns j → Rises i (ms ++ ns) j
rises_join (no_place m) b = rises_after m b
rises_join (a_place m a) b = a_place m (rises_join a b)

pub rises_order : {i j : ℕ} {ms : List ℕ} → Rises i ms j → i ≤ j
rises_order (no_place m) = m
rises_order (a_place m a) = let l = rises_order a in omega arith

around_rises : {i j : ℕ} {ms : List ℕ} {o : Option Span} (a b : ℕ) → o ≡ from_to a b → i ≤ a → Rises a ms b → b ≤ j → Rises i (around o ms) j
unfolding from_to
around_rises {i} {j} {ms} {o} a b e l m n =
    subst (λ z. Rises i (around z ms) j) (sym e) (a_place l (rises_join m (a_place {k = b} (omega arith) (no_place n))))

pub entry_rises : {i : ℕ} {o : Option Entry} (e : Entry) → o ≡ Some e → i ≤ e.start → Rises i (starts_of_entry o) e.start
entry_rises {i} e q l = subst (λ z. Rises i (starts_of_entry z) e.start) (sym q) (a_place l (no_place (omega arith)))

pub colon_rises : {t : List ℕ} {i j : ℕ} {o : Option Entry} (e : Entry) → o ≡ Some e → ColonIsAt t i j e.colon → Rises i (colon_offset o) j
colon_rises {i} {j} e q c = subst (λ z. Rises i (colon_offset z) j) (sym q) (offset_rises c) where
  offset_rises : {t : List ℕ} {i j : ℕ} {c : Option ℕ} → ColonIsAt t i j c → Rises i (option_to_list c) j
  offset_rises (no_colon l) = no_place l
  offset_rises (a_colon l e m) = a_place l (no_place m)

mutual
  pub node_rises : {t : List ℕ} {i j : ℕ} {x : Node} → NodeIsAt t i j x → Rises i (marks_in x) j
  node_rises {i = i} {j = j} (is_at_nowhere m e) = subst (λ z. Rises i (around z []) j) (sym e) (no_place m)
  node_rises (scalar_is_at e b l m w s) = around_rises _ _ e b.order (no_place (omega (arith, l))) m
  node_rises (alias_is_at e b l m s) = around_rises _ _ e b.order (no_place (omega (arith, l))) m
  node_rises (sequence_is_at e b a m s) = around_rises _ _ e b.order (rises_after b.inner (items_rise a)) m
  node_rises (mapping_is_at e b a m s) = around_rises _ _ e b.order (rises_after b.inner (pairs_rise a)) m

  items_rise : {t : List ℕ} {i j : ℕ} {xs : Items} → ItemsStand t i j xs → Rises i (marks_in_items xs) j
  items_rise (no_items_stand m) = no_place m
  items_rise (item_is_at e q l a b) = rises_join (entry_rises e q l.order) (rises_join (node_rises a) (items_rise b))

  pairs_rise : {t : List ℕ} {i j : ℕ} {ps : Pairs} → PairsStand t i j ps → Rises i (marks_in_pairs ps) j
  pairs_rise (no_pairs_stand m) = no_place m
  pairs_rise (pair_is_at e q l a c b d) =
      rises_join (entry_rises e q.key l.order) (rises_join (node_rises a) (rises_join (colon_rises e q.key c) (rises_join (node_rises b) (pairs_rise d))))

directives_rise : {i j : ℕ} {ds : List Directive} → DirectivesStand i ds j → Rises i (map (λ w. w.offset) ds) j
directives_rise (no_directives_stand m) = no_place m
directives_rise (directive_is_at m a) = a_place m (directives_rise a)

pub trees_rise : {t : List ℕ} {i : ℕ} {ds : List Doc} {trees : List DocumentTree} → TreesStand t i ds trees
    → Rises i (marks_in_documents ds trees) (length t)
trees_rise (no_trees_stand m) = no_place m
trees_rise (tree_is_at d a b z) = rises_join (directives_rise d) (a_place (omega arith) (rises_join (node_rises a) (trees_rise b)))

-- in terms of indices

pub rises_within : {i k : ℕ} (ms : List ℕ) (j d : ℕ) → Rises i ms k → j < length ms → (i ≤ slice_index_or ms j d) × (slice_index_or ms j d ≤ k)
rises_within [] j d a l = absurd (omega arith)
rises_within (m ∷ ms) zero d (a_place n a) l = let f = rises_order a in (n, f)
rises_within (m ∷ ms) (suc j) d (a_place n a) l = let r = rises_within ms j d a (omega arith) in (omega (arith, r.0), r.1)

pub rises_in_order : {k l : ℕ} (ms : List ℕ) → Rises k ms l → (i j d : ℕ) → i ≤ j → j < length ms → slice_index_or ms i d ≤ slice_index_or ms j d
rises_in_order [] a i j d le lt = absurd (omega arith)
rises_in_order (m ∷ ms) (a_place n a) zero zero d le lt = omega arith
rises_in_order (m ∷ ms) (a_place n a) zero (suc j) d le lt = (rises_within ms j d a (omega arith)).0
rises_in_order (m ∷ ms) (a_place n a) (suc i) zero d le lt = absurd (omega arith)
rises_in_order (m ∷ ms) (a_place n a) (suc i) (suc j) d le lt = rises_in_order ms a i j d (omega arith) (omega arith)
