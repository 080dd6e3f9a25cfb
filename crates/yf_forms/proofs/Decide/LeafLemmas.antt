-- The starts of the leaves of a node, by the indices of their events.
use Rattle.std.proofs.Common.{◌≡◌, ℕ, ◌+◌, ◌<◌, Bool, true, false, ◌&&◌, List, [], ◌∷◌, ◌++◌, length, map, Option, Some, None, refl, sym, ap, ◌∙◌, arith}
use Rattle.std.specs.Prelude.{is_some, ◌==◌, nat_lt, if◌then◌else◌, slice_get}
use Rattle.std.proofs.lemmas.Bool.{and_parts}
use Rattle.std.proofs.lemmas.Bool.Decides.{nat_tests}
use Rattle.std.proofs.lemmas.List.{map-append}
use Rattle.yf_events.specs.Event.{EventInText, sequence_ends, mapping_ends}
use Rattle.yf_events.specs.declared.event.Span.{Span}
use Rattle.yf_forms.specs.Passes.DecidePass.{leaf_start, start_of_span, start_or, is_leaf_at}
use Rattle.yf_forms.specs.NormalForms.Forms.{is_placed, items_are_placed, pairs_are_placed}
use Rattle.yf_forms.specs.NormalForms.Measures.{leaf_indices, leaf_indices_of_items, leaf_indices_of_pairs, first_of, last_of}
use Rattle.yf_forms.specs.NormalForms.Normal.{last_start}
use Rattle.yf_events.specs.Tree.{Node, scalar, alias, sequence, mapping, Items, no_items, item, Pairs, no_pairs, pair, flat, flat_items, flat_pairs, unplaced, leaves, leaves_of_items, leaves_of_pairs, spans_of_leaf, is_text}
use Rattle.yf_forms.proofs.Decide.AmongLemmas.{Among, front, back, after_first, first_at}
use Rattle.yf_chars.proofs.Tests.{below}

abbrev starts_at : List EventInText → List ℕ → List (Option ℕ)
starts_at es is = map (λ i. leaf_start es (Some i)) is

abbrev starts : List Span → List (Option ℕ)
starts ss = map (λ s. Some s.start) ss

-- leaves

one_leaf : (es : List EventInText) (i : ℕ) (o : Option Span) → slice_get (map (λ e. e.span) es) i ≡ Some o
    → starts_at es (if is_some o then i ∷ [] else []) ≡ starts (spans_of_leaf o)
one_leaf es i None e = refl
one_leaf es i (Some span) e = ap (λ w. start_of_span w ∷ []) e

with_text : (es : List EventInText) (i : ℕ) (o : Option Span) → is_some o ≡ true → slice_get (map (λ e. e.span) es) i ≡ Some o
    → starts_at es (i ∷ []) ≡ starts (spans_of_leaf o)
with_text es i None h e = absurd cc
with_text es i (Some span) h e = ap (λ w. start_of_span w ∷ []) e

joined : (es : List EventInText) (is js : List ℕ) (ss rs : List Span) → starts_at es is ≡ starts ss → starts_at es js ≡ starts rs
    → starts_at es (is ++ js) ≡ starts (ss ++ rs)
joined es is js ss rs a b =
    map-append (λ i. leaf_start es (Some i)) is js ∙ ap (λ w. w ++ starts_at es js) a ∙ ap (λ w. starts ss ++ w) b
    ∙ sym (map-append (λ (s : Span). Some s.start) ss rs)

mutual
  pub node_starts : (es : List EventInText) (i : ℕ) (x : Node) → is_placed x ≡ true → Among es (flat x) i
      → map (λ j. leaf_start es (Some j)) (leaf_indices i x) ≡ map (λ s. Some s.start) (leaves x)
  node_starts es i (scalar at props style text lines) h a = one_leaf es i at.span (first_at (λ e. e.span) _ _ a)
  node_starts es i (alias at name) h a = with_text es i at.span h (first_at (λ e. e.span) _ _ a)
  node_starts es i (sequence at flow props no_items) h a = with_text es i at.span h (first_at (λ e. e.span) _ _ a)
  node_starts es i (sequence at flow props (item x xs)) h a =
      let inner = front (flat x ++ flat_items xs) (unplaced sequence_ends ∷ []) (after_first _ _ a) in
      joined es _ _ _ _ (node_starts es (i + 1) x (and_parts _ _ h).0 (front (flat x) (flat_items xs) inner))
      (items_starts es (i + 1 + length (flat x)) xs (and_parts _ _ h).1 (back (flat x) (flat_items xs) inner))
  node_starts es i (mapping at flow props no_pairs) h a = with_text es i at.span h (first_at (λ e. e.span) _ _ a)
  node_starts es i (mapping at flow props (pair k v ps)) h a =
      pairs_starts es (i + 1) (pair k v ps) h (front (flat_pairs (pair k v ps)) (unplaced mapping_ends ∷ []) (after_first _ _ a))

  items_starts : (es : List EventInText) (i : ℕ) (xs : Items) → items_are_placed xs ≡ true → Among es (flat_items xs) i
      → map (λ j. leaf_start es (Some j)) (leaf_indices_of_items i xs) ≡ map (λ s. Some s.start) (leaves_of_items xs)
  items_starts es i no_items h a = refl
  items_starts es i (item x xs) h a =
      joined es _ _ _ _ (node_starts es i x (and_parts _ _ h).0 (front (flat x) (flat_items xs) a))
      (items_starts es (i + length (flat x)) xs (and_parts _ _ h).1 (back (flat x) (flat_items xs) a))

  pairs_starts : (es : List EventInText) (i : ℕ) (ps : Pairs) → pairs_are_placed ps ≡ true → Among es (flat_pairs ps) i
      → map (λ j. leaf_start es (Some j)) (leaf_indices_of_pairs i ps) ≡ map (λ s. Some s.start) (leaves_of_pairs ps)
  pairs_starts es i no_pairs h a = refl
  pairs_starts es i (pair k v ps) h a =
      let rest = back (flat k) (flat v ++ flat_pairs ps) a in
      let others = (and_parts _ _ h).1 in
      joined es _ _ _ _ (node_starts es i k (and_parts _ _ h).0 (front (flat k) (flat v ++ flat_pairs ps) a))
      (joined es _ _ _ _ (node_starts es (i + length (flat k)) v (and_parts _ _ others).0 (front (flat v) (flat_pairs ps) rest))
      (pairs_starts es (i + length (flat k) + length (flat v)) ps (and_parts _ _ others).1 (back (flat v) (flat_pairs ps) rest)))

-- the first and the last one

abbrev pub first_start : List Span → Option ℕ
first_start [] = None
first_start (s ∷ ss) = Some s.start

pub first_leaf : (es : List EventInText) (is : List ℕ) (ss : List Span) → map (λ i. leaf_start es (Some i)) is ≡ map (λ s. Some s.start) ss
    → leaf_start es (first_of is) ≡ first_start ss
first_leaf es [] [] e = refl
first_leaf es [] (s ∷ ss) e = absurd cc
first_leaf es (i ∷ is) [] e = absurd cc
first_leaf es (i ∷ is) (s ∷ ss) e = cc

last_among : (es : List EventInText) (i : ℕ) (is : List ℕ) (s : Span) (ss : List Span)
    → map (λ i. leaf_start es (Some i)) (i ∷ is) ≡ map (λ s. Some s.start) (s ∷ ss)
    → leaf_start es (last_of (i ∷ is)) ≡ Some (last_start s.start ss)
last_among es i [] s [] e = cc
last_among es i [] s (r ∷ ss) e = absurd cc
last_among es i (j ∷ is) s [] e = absurd cc
last_among es i (j ∷ is) s (r ∷ ss) e = last_among es j is r ss cc

pub last_leaf : (es : List EventInText) (is : List ℕ) (ss : List Span) (other : ℕ)
    → map (λ i. leaf_start es (Some i)) is ≡ map (λ s. Some s.start) ss → start_or other (leaf_start es (last_of is)) ≡ last_start other ss
last_leaf es [] [] other e = refl
last_leaf es [] (s ∷ ss) other e = absurd cc
last_leaf es (i ∷ is) [] other e = absurd cc
last_leaf es (i ∷ is) (s ∷ ss) other e = ap (start_or other) (last_among es i is s ss e)

-- a node is its own first leaf if and only if it is a leaf with characters

abbrev pub are_above : ℕ → List ℕ → Bool
are_above i [] = true
are_above i (j ∷ js) = nat_lt i j && are_above i js

above_join : (i : ℕ) (is js : List ℕ) → are_above i is ≡ true → are_above i js ≡ true → are_above i (is ++ js) ≡ true
above_join i [] js a b = b
above_join i (j ∷ is) js a b =
    let p = and_parts (nat_lt i j) (are_above i is) a in
    let first : nat_lt i j ≡ true = p.0 in
    let rest : are_above i (is ++ js) ≡ true = above_join i is js p.1 b in
    rw (first, rest) refl

mutual
  node_above : (i n : ℕ) (x : Node) → i < n → are_above i (leaf_indices n x) ≡ true
  node_above i n (scalar at props style text lines) l = by (is_some at.span) where
    by : (b : Bool) → are_above i (if b then n ∷ [] else []) ≡ true
    by true = rw (below i n l) refl
    by false = refl
  node_above i n (alias at name) l = rw (below i n l) refl
  node_above i n (sequence at flow props no_items) l = rw (below i n l) refl
  node_above i n (sequence at flow props (item x xs)) l =
      above_join i (leaf_indices (n + 1) x) _ (node_above i (n + 1) x (omega arith)) (items_above i (n + 1 + length (flat x)) xs (omega arith))
  node_above i n (mapping at flow props no_pairs) l = rw (below i n l) refl
  node_above i n (mapping at flow props (pair k v ps)) l = pairs_above i (n + 1) (pair k v ps) (omega arith)

  pub items_above : (i n : ℕ) (xs : Items) → i < n → are_above i (leaf_indices_of_items n xs) ≡ true
  items_above i n no_items l = refl
  items_above i n (item x xs) l =
      above_join i (leaf_indices n x) _ (node_above i n x l) (items_above i (n + length (flat x)) xs (omega arith))

  pub pairs_above : (i n : ℕ) (ps : Pairs) → i < n → are_above i (leaf_indices_of_pairs n ps) ≡ true
  pairs_above i n no_pairs l = refl
  pairs_above i n (pair k v ps) l =
      above_join i (leaf_indices n k) _ (node_above i n k l)
      (above_join i (leaf_indices (n + length (flat k)) v) _ (node_above i (n + length (flat k)) v (omega arith))
      (pairs_above i (n + length (flat k) + length (flat v)) ps (omega arith)))

pub same : (i : ℕ) → (i == i) ≡ true
same i = grind (arith, nat_tests)

pub other : (i j : ℕ) → nat_lt i j ≡ true → (j == i) ≡ false
other i j e = grind (arith, nat_tests)

pub not_first : (i : ℕ) (js : List ℕ) → are_above i js ≡ true → is_leaf_at i (first_of js) ≡ false
not_first i [] e = refl
not_first i (j ∷ js) e = other i j (and_parts _ _ e).0

own_leaf : (i : ℕ) (b : Bool) → is_leaf_at i (first_of (if b then i ∷ [] else [])) ≡ b
own_leaf i true = same i
own_leaf i false = refl

pub is_own_leaf : (i : ℕ) (x : Node) → is_placed x ≡ true → is_leaf_at i (first_of (leaf_indices i x)) ≡ is_text x
is_own_leaf i (scalar at props style text lines) h = own_leaf i (is_some at.span)
is_own_leaf i (alias at name) h = same i ∙ sym h
is_own_leaf i (sequence at flow props no_items) h = same i ∙ sym h
is_own_leaf i (sequence at flow props (item x xs)) h = not_first i _ (items_above i (i + 1) (item x xs) (omega arith))
is_own_leaf i (mapping at flow props no_pairs) h = same i ∙ sym h
is_own_leaf i (mapping at flow props (pair k v ps)) h = not_first i _ (pairs_above i (i + 1) (pair k v ps) (omega arith))
