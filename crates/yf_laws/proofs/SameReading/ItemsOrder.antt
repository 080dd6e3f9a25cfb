-- The items on the rows of a layout, and those in a tree that is in a text: they rise, and the leaves are among them.
use Rattle.std.proofs.Common.{◌≡◌, ◌≢◌, ℕ, ◌≤◌, List, [], ◌∷◌, ◌++◌, map, flat_map, Option, refl, sym, subst, arith, append_assoc}
use Rattle.std.proofs.lemmas.Grind.{flat_map-append}
use Rattle.yf_chars.specs.Text.{code}
use Rattle.yf_events.specs.Tree.{Node, scalar, alias, sequence, mapping, Items, no_items, item, Pairs, no_pairs, pair, entry_start, items_in, items_in_items, items_in_pairs, leaves, leaves_of_items, leaves_of_pairs, spans_of_leaf}
use Rattle.yf_events.specs.declared.event.Span.{Span}
use Rattle.yf_grammar.specs.Productions.Meaning.{from_to}
use Rattle.yf_grammar.proofs.Ends.GapLemmas.{Visible}
use Rattle.yf_grammar.proofs.NodesInText.NodePlaces.{NodeIsAt, is_at_nowhere, scalar_is_at, alias_is_at, sequence_is_at, mapping_is_at, ItemsStand, no_items_stand, item_is_at, PairsStand, no_pairs_stand, pair_is_at, colon_order}
use Rattle.yf_forms.specs.NormalForms.Normal.{LayoutSetting, styled, styled_items, styled_pairs}
use Rattle.yf_print.specs.Layouts.Rows.{Row, joined}
use Rattle.yf_laws.proofs.SameReading.FoundAgain.{Unsigned, no_start, a_start}
use Rattle.yf_laws.proofs.OfTexts.MarksOrder.{Rises, no_place, a_place, rises_after, rises_join, entry_rises}
use Rattle.yf_laws.proofs.NormalForms.NormalSame.{styled_same}
use Rattle.yf_laws.proofs.SameReading.RowFlow.{Sub, sub_none, sub_take, sub_skip, greatest}
use Rattle.yf_laws.proofs.Derived.StepsInText.{starts_of, starts_append}

-- On rows.

abbrev pub items_on : List Row → List ℕ
items_on rows = flat_map (λ row. row.items) rows

pub items_append : (xs ys : List Row) → items_on (xs ++ ys) ≡ items_on xs ++ items_on ys
items_append xs ys = flat_map-append (λ (row : Row). row.items) xs ys

pub items_joined : (head : Row) (n : ℕ) (xs : List Row) → items_on (joined head n xs) ≡ head.items ++ items_on xs
items_joined head n [] = refl
items_joined head n (x ∷ xs) = append_assoc head.items x.items (items_on xs)

-- Some of a list, in its order.

pub sub_after : {ss js : List ℕ} (is : List ℕ) → Sub ss js → Sub ss (is ++ js)
sub_after [] a = a
sub_after (i ∷ is) a = sub_skip (sub_after is a)

pub sub_join : {ss rs is js : List ℕ} → Sub ss is → Sub rs js → Sub (ss ++ rs) (is ++ js)
sub_join {is = is} sub_none b = sub_after is b
sub_join (sub_take a) b = sub_take (sub_join a b)
sub_join (sub_skip a) b = sub_skip (sub_join a b)

pub sub_all : (ss : List ℕ) → Sub ss ss
sub_all [] = sub_none
sub_all (s ∷ ss) = sub_take (sub_all ss)

pub sub_twice : {xs ys zs : List ℕ} → Sub xs ys → Sub ys zs → Sub xs zs
sub_twice sub_none b = sub_none
sub_twice a (sub_skip b) = sub_skip (sub_twice a b)
sub_twice (sub_take a) (sub_take b) = sub_take (sub_twice a b)
sub_twice (sub_skip a) (sub_take b) = sub_skip (sub_twice a b)

-- Offsets that rise, up to a further one.

pub rises_upto : {i k j : ℕ} {ms : List ℕ} → Rises i ms k → k ≤ j → Rises i ms j
rises_upto (no_place l) m = no_place (omega (arith, l, m))
rises_upto (a_place l a) m = a_place l (rises_upto a m)

pub rises_greatest : {i j : ℕ} {ms : List ℕ} → Rises i ms j → greatest ms ≤ j
rises_greatest (no_place l) = omega arith
rises_greatest (a_place {k = k} l a) = let m = rises_greatest a in let n = order a in omega (arith, m, n) where
  order : {i j : ℕ} {ms : List ℕ} → Rises i ms j → i ≤ j
  order (no_place l) = l
  order (a_place l a) = let m = order a in omega (arith, l, m)

-- In trees.

leaf_rises : {i j : ℕ} (a b : ℕ) (o : Option Span) → o ≡ from_to a b → i ≤ a → a ≤ j → Rises i (map (λ s. s.start) (spans_of_leaf o)) j
unfolding from_to
leaf_rises {i} {j} a b o e l m = subst (λ z. Rises i (map (λ s. s.start) (spans_of_leaf z)) j) (sym e) (a_place l (no_place m))

mutual
  node_items : {t : List ℕ} {i j : ℕ} {x : Node} → NodeIsAt t i j x → Rises i (items_in x) j
  node_items {i = i} {j = j} (is_at_nowhere m e) = subst (λ z. Rises i (map (λ s. s.start) (spans_of_leaf z)) j) (sym e) (no_place m)
  node_items (scalar_is_at {at = at} e b l m w s) = leaf_rises _ _ at.span e b.order (omega (arith, l, m))
  node_items (alias_is_at {at = at} e b l m s) = leaf_rises _ _ at.span e b.order (omega (arith, l, m))
  node_items (sequence_is_at {at = at} e b (no_items_stand l) m s) = leaf_rises _ _ at.span e b.order (let n = b.inner in omega (arith, l, m, n))
  node_items (sequence_is_at e b (item_is_at f q l a c) m s) = rises_after (let o = b.order in let n = b.inner in omega (arith, o, n)) (rises_upto (items_items (item_is_at f q l a c)) m)
  node_items (mapping_is_at {at = at} e b (no_pairs_stand l) m s) = leaf_rises _ _ at.span e b.order (let n = b.inner in omega (arith, l, m, n))
  node_items (mapping_is_at e b (pair_is_at f q l a c d g) m s) = rises_after (let o = b.order in let n = b.inner in omega (arith, o, n)) (rises_upto (pairs_items (pair_is_at f q l a c d g)) m)

  pub items_items : {t : List ℕ} {i j : ℕ} {xs : Items} → ItemsStand t i j xs → Rises i (items_in_items xs) j
  items_items (no_items_stand m) = no_place m
  items_items (item_is_at e q l a b) = rises_join (entry_rises e q l.order) (rises_join (node_items a) (items_items b))

  pub pairs_items : {t : List ℕ} {i j : ℕ} {ps : Pairs} → PairsStand t i j ps → Rises i (items_in_pairs ps) j
  pairs_items (no_pairs_stand m) = no_place m
  pairs_items (pair_is_at e q l a c b d) =
      rises_join (entry_rises e q.key l.order) (rises_join (node_items a) (rises_after (colon_order c) (rises_join (node_items b) (pairs_items d))))

-- the leaves are among them
mutual
  pub leaves_among : (x : Node) → Sub (starts_of (leaves x)) (items_in x)
  leaves_among (scalar at props style text lines) = sub_all (starts_of (spans_of_leaf at.span))
  leaves_among (alias at name) = sub_all (starts_of (spans_of_leaf at.span))
  leaves_among (sequence at flow props no_items) = sub_all (starts_of (spans_of_leaf at.span))
  leaves_among (sequence at flow props (item x xs)) = items_among (item x xs)
  leaves_among (mapping at flow props no_pairs) = sub_all (starts_of (spans_of_leaf at.span))
  leaves_among (mapping at flow props (pair k v ps)) = pairs_among (pair k v ps)

  items_among : (xs : Items) → Sub (starts_of (leaves_of_items xs)) (items_in_items xs)
  items_among no_items = sub_none
  items_among (item x xs) =
      sub_after (entry_start x) (subst (λ w. Sub w (items_in x ++ items_in_items xs)) (sym (starts_append (leaves x) (leaves_of_items xs))) (sub_join (leaves_among x) (items_among xs)))

  pairs_among : (ps : Pairs) → Sub (starts_of (leaves_of_pairs ps)) (items_in_pairs ps)
  pairs_among no_pairs = sub_none
  pairs_among (pair k v ps) =
      let rest = subst (λ w. Sub w (items_in v ++ items_in_pairs ps)) (sym (starts_append (leaves v) (leaves_of_pairs ps))) (sub_join (leaves_among v) (pairs_among ps)) in
      sub_after (entry_start k) (subst (λ w. Sub w (items_in k ++ (items_in v ++ items_in_pairs ps))) (sym (starts_append (leaves k) (leaves v ++ leaves_of_pairs ps))) (sub_join (leaves_among k) rest))

-- no leaf begins with the sign of a comment

pub unsigned_join : {t : List ℕ} (xs ys : List Span) → Unsigned t (starts_of xs) → Unsigned t (starts_of ys) → Unsigned t (starts_of (xs ++ ys))
unsigned_join [] ys a b = b
unsigned_join (x ∷ xs) ys (a_start v a) b = a_start v (unsigned_join xs ys a b)

pub unsigned_at : {t : List ℕ} {o : ℕ} {ss : List ℕ} → Unsigned t ss → Sub (o ∷ []) ss → code t o ≢ 35
unsigned_at no_start b = elim b [ ]
unsigned_at (a_start v a) (sub_take b) = v
unsigned_at (a_start v a) (sub_skip b) = unsigned_at a b

leaf_unsigned : {t : List ℕ} (a b : ℕ) (o : Option Span) → o ≡ from_to a b → Visible t a → Unsigned t (starts_of (spans_of_leaf o))
unfolding from_to
leaf_unsigned {t} a b o e v = subst (λ z. Unsigned t (starts_of (spans_of_leaf z))) (sym e) (a_start v.no_hash no_start)

mutual
  pub node_unsigned : {t : List ℕ} {i j : ℕ} {x : Node} → NodeIsAt t i j x → Unsigned t (starts_of (leaves x))
  node_unsigned {t} (is_at_nowhere m e) = subst (λ z. Unsigned t (starts_of (spans_of_leaf z))) (sym e) no_start
  node_unsigned (scalar_is_at {at = at} e b l m w s) = leaf_unsigned _ _ at.span e b.visible
  node_unsigned (alias_is_at {at = at} e b l m s) = leaf_unsigned _ _ at.span e b.visible
  node_unsigned (sequence_is_at {at = at} e b (no_items_stand l) m s) = leaf_unsigned _ _ at.span e b.visible
  node_unsigned (sequence_is_at e b (item_is_at f q l a c) m s) = items_unsigned (item_is_at f q l a c)
  node_unsigned (mapping_is_at {at = at} e b (no_pairs_stand l) m s) = leaf_unsigned _ _ at.span e b.visible
  node_unsigned (mapping_is_at e b (pair_is_at f q l a c d g) m s) = pairs_unsigned (pair_is_at f q l a c d g)

  pub items_unsigned : {t : List ℕ} {i j : ℕ} {xs : Items} → ItemsStand t i j xs → Unsigned t (starts_of (leaves_of_items xs))
  items_unsigned (no_items_stand m) = no_start
  items_unsigned (item_is_at {x = x} {xs = xs} e q l a b) = unsigned_join (leaves x) (leaves_of_items xs) (node_unsigned a) (items_unsigned b)

  pub pairs_unsigned : {t : List ℕ} {i j : ℕ} {ps : Pairs} → PairsStand t i j ps → Unsigned t (starts_of (leaves_of_pairs ps))
  pairs_unsigned (no_pairs_stand m) = no_start
  pairs_unsigned (pair_is_at {k = k} {v = v} {ps = ps} e q l a c b d) =
      unsigned_join (leaves k) (leaves v ++ leaves_of_pairs ps) (node_unsigned a) (unsigned_join (leaves v) (leaves_of_pairs ps) (node_unsigned b) (pairs_unsigned d))

-- In the house style.

mutual
  pub styled_items_in : (t : List ℕ) (c : LayoutSetting) (x : Node) → items_in (styled t c x) ≡ items_in x
  styled_items_in t c (scalar at props style text lines) = refl
  styled_items_in t c (alias at name) = refl
  styled_items_in t c (sequence at flow props no_items) = refl
  styled_items_in t c (sequence at flow props (item x xs)) = styled_in_items t c (item x xs)
  styled_items_in t c (mapping at flow props no_pairs) = refl
  styled_items_in t c (mapping at flow props (pair k v ps)) = styled_in_pairs t c (pair k v ps)

  styled_in_items : (t : List ℕ) (c : LayoutSetting) (xs : Items) → items_in_items (styled_items t c xs) ≡ items_in_items xs
  styled_in_items t c no_items = refl
  styled_in_items t c (item x xs) = rw ((styled_same t c x).standing, styled_items_in t c x, styled_in_items t c xs) refl

  styled_in_pairs : (t : List ℕ) (c : LayoutSetting) (ps : Pairs) → items_in_pairs (styled_pairs t c ps) ≡ items_in_pairs ps
  styled_in_pairs t c no_pairs = refl
  styled_in_pairs t c (pair k v ps) = rw ((styled_same t c k).standing, styled_items_in t c k, styled_items_in t c v, styled_in_pairs t c ps) refl
