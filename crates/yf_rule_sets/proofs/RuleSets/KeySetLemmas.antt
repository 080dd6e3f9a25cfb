-- In trees, the pass finds the repeated keys of these trees.
use Rattle.std.proofs.Common.{◌≡◌, ℕ, ◌+◌, ◌<◌, ◌≤◌, ◌⊎◌, Bool, true, false, List, [], ◌∷◌, ◌++◌, Option, Some, None, length, refl, sym, subst, ap, ◌∙◌, inl, inr, ⊎_elim, arith, true≢false}
use Rattle.std.specs.List.{Contains}
use Rattle.std.specs.Cmp.{nat_cmp_is}
use Rattle.std.specs.Cmp.Lexicographic.{slice_cmp}
use Rattle.std.specs.Option.{option_cmp}
use Rattle.std.specs.Ordering.{eq_by_cmp, is_eq, nat_cmp, ordering_then}
use Rattle.std.specs.Prelude.{slice_get, if◌then◌else◌}
use Rattle.std.specs.declared.cmp.Ordering.{Ordering}
use Rattle.std.specs.declared.cmp.Ordering.TheVariants.{Less, Equal, Greater}
use Rattle.std.proofs.lemmas.Map.Lookups.{CmpEqualImpliesEq, exact_bytes, exact_pairs}
use Rattle.std.proofs.lemmas.Map.Views.{tells_apart}
use Rattle.std.proofs.lemmas.List.Elements.{Contains-append_cases, Contains-append_left, Contains-append_right, Contains-push_cases}
use Rattle.std.proofs.lemmas.Option.{same_Some}
use Rattle.yf_chars.proofs.Tests.{none_some}
use Rattle.yf_events.specs.Tree.{Node, scalar, alias, sequence, mapping, Items, no_items, item, Pairs, no_pairs, pair, DocumentTree, flat, flat_document}
use Rattle.yf_events.specs.declared.lists.Lists.{Lists}
use Rattle.yf_rule_sets.specs.RuleSets.Exact.{Exactly}
use Rattle.yf_rule_sets.specs.Passes.KeyPass.{KeyValue, add_key, found_in, found_in_documents, found_in_items, found_in_pairs, has_key, is_known, key_of, offset_if, value_cmp}
use Rattle.yf_rule_sets.specs.RuleSets.Nodes.{IsChildOf, NumberedNode, NumberedPair, RepeatedKey, IsNodeOf, items_from, items_of, key_place, pairs_from, pairs_of, roots_from, scalar_text}
use Rattle.yf_rule_sets.specs.RuleSets.Nodes.IsChildOf.{as_item, as_key, as_value}
use Rattle.yf_rule_sets.specs.RuleSets.Nodes.RepeatedKey.{repeats}
use Rattle.yf_rule_sets.specs.RuleSets.Nodes.IsNodeOf.{is_root, is_inner}
use Rattle.yf_forms.proofs.Texts.OneLineRuns.{flat_filled as node_size}

pub nothing_in : {X : Type 0} (y : X) → Contains {X = X} [] y → ⊥
nothing_in y c = omega (arith, c.1)

-- the first element of a list, or a later one
pub head_or_later : {X : Type 0} (x : X) (xs : List X) (y : X) → Contains (x ∷ xs) y → (x ≡ y) ⊎ Contains xs y
head_or_later {X} x xs y c = ⊎_elim (λ (h : Contains (x ∷ []) y). ⊎_elim (λ (n : Contains {X = X} [] y). absurd (nothing_in y n)) (λ (e : x ≡ y). inl e) (Contains-push_cases [] x y h))
    (λ (h : Contains xs y). inr h) (Contains-append_cases (x ∷ []) xs y c)

pub is_head : {X : Type 0} (x : X) (xs : List X) → Contains (x ∷ xs) x
is_head x xs = (0, omega arith, refl)

pub is_later : {X : Type 0} (x : X) (xs : List X) (y : X) → Contains xs y → Contains (x ∷ xs) y
is_later x xs y c = Contains-append_right (x ∷ []) xs y c

-- an offset that is found if a condition holds
when_found : (b : Bool) (o p : ℕ) → Contains (offset_if b p) o → (b ≡ true) × (p ≡ o)
when_found true o p c = (refl, ⊎_elim (λ (h : p ≡ o). h) (λ (h : Contains [] o). absurd (nothing_in o h)) (head_or_later p [] o c))
when_found false o p c = absurd (nothing_in o c)

is_found : (b : Bool) (p : ℕ) → b ≡ true → Contains (offset_if b p) p
is_found true p e = is_head p []
is_found false p e = absurd (true≢false (sym e))

-- a key with its index
abbrev key_at : List (Option (List ℕ)) → NumberedNode → Option KeyValue
key_at tags k = key_of tags k.0 k.1

-- keys and their nodes

not_less : Less ≡ Equal → ⊥
not_less e = cc

not_greater : Greater ≡ Equal → ⊥
not_greater e = cc

text_of : (x : Node) (tags : List (Option (List ℕ))) (i : ℕ) (w : KeyValue) → key_of tags i x ≡ Some w → scalar_text x ≡ Some w.0
text_of (scalar at props style text lines) tags i w e = ap (λ v. Some v.0) (same_Some _ _ e)
text_of (alias at name) tags i w e = absurd (none_some e)
text_of (sequence at flow props items) tags i w e = absurd (none_some e)
text_of (mapping at flow props pairs) tags i w e = absurd (none_some e)

tag_of : (x : Node) (tags : List (Option (List ℕ))) (i : ℕ) (w : KeyValue) → key_of tags i x ≡ Some w → slice_get tags i ≡ w.1
tag_of (scalar at props style text lines) tags i w e = ap (λ v. v.1) (same_Some _ _ e)
tag_of (alias at name) tags i w e = absurd (none_some e)
tag_of (sequence at flow props items) tags i w e = absurd (none_some e)
tag_of (mapping at flow props pairs) tags i w e = absurd (none_some e)

-- values that compare equal are equal
exact_option : {K : Type 0} (R : K → K → Ordering) → CmpEqualImpliesEq R → CmpEqualImpliesEq (option_cmp R)
exact_option R x None None e = refl
exact_option R x None (Some b) e = absurd (not_less e)
exact_option R x (Some a) None e = absurd (not_greater e)
exact_option R x (Some a) (Some b) e = ap (λ v. Some v) (x a b e)

pub exact_value : CmpEqualImpliesEq value_cmp
exact_value = exact_pairs (slice_cmp nat_cmp) (option_cmp (option_cmp (slice_cmp nat_cmp))) exact_bytes
    (exact_option (option_cmp (slice_cmp nat_cmp)) (exact_option (slice_cmp nat_cmp) exact_bytes))

same_text : (x : List ℕ) → slice_cmp nat_cmp x x ≡ Equal
same_text [] = refl
same_text (b ∷ x) = ap (λ o. ordering_then o (slice_cmp nat_cmp x x)) (sym (nat_cmp_is b b Equal refl)) ∙ same_text x

same_tag : (t : Option (Option (List ℕ))) → option_cmp (option_cmp (slice_cmp nat_cmp)) t t ≡ Equal
same_tag None = refl
same_tag (Some None) = refl
same_tag (Some (Some x)) = same_text x

same_value : (w : KeyValue) → eq_by_cmp value_cmp w w ≡ true
same_value w = ap (λ o. is_eq (ordering_then o (option_cmp (option_cmp (slice_cmp nat_cmp)) w.1 w.1))) (same_text w.0) ∙ ap is_eq (same_tag w.1)

if_either : (b c : Bool) → (b ≡ true) ⊎ (c ≡ true) → (if b then true else c) ≡ true
if_either true c e = refl
if_either false c e = ⊎_elim (λ (h : false ≡ true). absurd (true≢false (sym h))) (λ (h : c ≡ true). h) e

either_if : (b c : Bool) → (if b then true else c) ≡ true → (b ≡ true) ⊎ (c ≡ true)
either_if true c e = inl refl
either_if false c e = inr e

known_itself : (w : KeyValue) (ks : List KeyValue) → has_key w (w ∷ ks) ≡ true
known_itself w ks = if_either (eq_by_cmp value_cmp w w) (has_key w ks) (inl (same_value w))

known_more : (u : Option KeyValue) (w : KeyValue) (ks : List KeyValue) → has_key w ks ≡ true → has_key w (add_key u ks) ≡ true
known_more None w ks e = e
known_more (Some u) w ks e = if_either (eq_by_cmp value_cmp u w) (has_key w ks) (inr e)

known_added : (u : Option KeyValue) (w : KeyValue) (ks : List KeyValue) → u ≡ Some w → has_key w (add_key u ks) ≡ true
known_added u w ks e = subst (λ v. has_key w (add_key v ks) ≡ true) (sym e) (known_itself w ks)

-- the keys of the pairs that begin before an index are known
abbrev AllOf : List (Option (List ℕ)) → NumberedNode → ℕ → List KeyValue → Type 0
AllOf tags x i ks = (w : KeyValue) → has_key w ks ≡ true → (l : NumberedNode) × (m : NumberedNode) × Contains (pairs_of x.0 x.1) (l, m) × (l.0 < i) × (key_at tags l ≡ Some w)

one_more_of : (tags : List (Option (List ℕ))) (x k v : NumberedNode) (h : ℕ) (u : Option KeyValue) (ks : List KeyValue) → u ≡ key_at tags k → AllOf tags x k.0 ks
    → Contains (pairs_of x.0 x.1) (k, v) → k.0 < h → AllOf tags x h (add_key u ks)
one_more_of tags x k v h None ks e a c l w q = let f = a w q in (f.0, f.1, f.2, omega (arith, f.3, l), f.4)
one_more_of tags x k v h (Some u) ks e a c l w q = ⊎_elim
    (λ (s : eq_by_cmp value_cmp u w ≡ true). (k, v, c, l, sym e ∙ ap (λ y. Some y) (tells_apart exact_value u w s)))
    (λ (s : has_key w ks ≡ true). let f = a w s in (f.0, f.1, f.2, omega (arith, f.3, l), f.4))
    (either_if (eq_by_cmp value_cmp u w) (has_key w ks) q)

abbrev Repeated : Lists → List DocumentTree → ℕ → Type 0
Repeated r trees o = (n : ℕ) × RepeatedKey r trees n o

none_or : (o : Option KeyValue) → (o ≡ None) ⊎ ((w : KeyValue) × (o ≡ Some w))
none_or None = inl refl
none_or (Some w) = inr (w, refl)

-- a known key repeats an earlier one
repeats_known : (r : Lists) (trees : List DocumentTree) (x k v : NumberedNode) (ks : List KeyValue) → IsNodeOf trees x → AllOf r.resolved x k.0 ks → Contains (pairs_of x.0 x.1) (k, v)
    → is_known (key_at r.resolved k) ks ≡ true → Repeated r trees (key_place k.1)
repeats_known r trees x k v ks s a c e = ⊎_elim
    (λ (q : key_at r.resolved k ≡ None). absurd (true≢false (sym e ∙ ap (λ w. is_known w ks) q)))
    (λ (q : (w : KeyValue) × (key_at r.resolved k ≡ Some w)).
    let f = a q.0 (sym (ap (λ w. is_known w ks) q.1) ∙ e) in (
      k.0,
      repeats s c f.2 f.3 refl (text_of k.1 r.resolved k.0 q.0 q.1) (text_of f.0.1 r.resolved f.0.0 q.0 f.4)
          (tag_of k.1 r.resolved k.0 q.0 q.1 ∙ sym (tag_of f.0.1 r.resolved f.0.0 q.0 f.4)),
    ))
    (none_or (key_at r.resolved k))

mutual
  node_repeats : (r : Lists) (trees : List DocumentTree) (x : Node) (i : ℕ) → IsNodeOf trees (i, x) → (o : ℕ) → Contains (found_in r.resolved i x) o → Repeated r trees o
  node_repeats r trees (scalar at props style text lines) i s o c = absurd (nothing_in o c)
  node_repeats r trees (alias at name) i s o c = absurd (nothing_in o c)
  node_repeats r trees (sequence at flow props items) i s o c = items_repeat r trees items (i + 1) (i, sequence at flow props items) s (λ y h. as_item h) o c
  node_repeats r trees (mapping at flow props pairs) i s o c =
      pairs_repeat r trees pairs (i + 1) [] (i, mapping at flow props pairs) s (λ k v h. h) (λ w e. absurd (true≢false (sym e))) o c

  items_repeat : (r : Lists) (trees : List DocumentTree) (xs : Items) (i : ℕ) (x : NumberedNode) → IsNodeOf trees x → ((y : NumberedNode) → Contains (items_from i xs) y → IsChildOf x y)
      → (o : ℕ) → Contains (found_in_items r.resolved i xs) o → Repeated r trees o
  items_repeat r trees no_items i x s f o c = absurd (nothing_in o c)
  items_repeat r trees (item y ys) i x s f o c =
      let j = i + length (flat y) in
      ⊎_elim
      (λ (h : Contains (found_in r.resolved i y) o). node_repeats r trees y i (is_inner s (f (i, y) (is_head (i, y) (items_from j ys)))) o h)
      (λ (h : Contains (found_in_items r.resolved j ys) o). items_repeat r trees ys j x s (λ z m. f z (is_later (i, y) (items_from j ys) z m)) o h)
      (Contains-append_cases (found_in r.resolved i y) (found_in_items r.resolved j ys) o c)

  pairs_repeat : (r : Lists) (trees : List DocumentTree) (ps : Pairs) (i : ℕ) (ks : List KeyValue) (x : NumberedNode) → IsNodeOf trees x
      → ((k v : NumberedNode) → Contains (pairs_from i ps) (k, v) → Contains (pairs_of x.0 x.1) (k, v)) → AllOf r.resolved x i ks
      → (o : ℕ) → Contains (found_in_pairs r.resolved i ks ps) o → Repeated r trees o
  pairs_repeat r trees no_pairs i ks x s f a o c = absurd (nothing_in o c)
  pairs_repeat r trees (pair k v ps) i ks x s f a o c =
      let tags = r.resolved in
      let w = key_of tags i k in
      let j = i + length (flat k) in
      let h = j + length (flat v) in
      let K = offset_if (is_known w ks) (key_place k) in
      let X = found_in tags i k in
      let Y = found_in tags j v in
      let Z = found_in_pairs tags h (add_key w ks) ps in
      let first = f (i, k) (j, v) (is_head ((i, k), (j, v)) (pairs_from h ps)) in
      let n = node_size k in
      let later : AllOf tags x h (add_key w ks) = one_more_of tags x (i, k) (j, v) h w ks refl a first (omega (arith, n)) in
      ⊎_elim
      (λ (g : Contains K o). let e = when_found (is_known w ks) o (key_place k) g in subst (Repeated r trees) e.1 (repeats_known r trees x (i, k) (j, v) ks s a first e.0))
      (λ (g : Contains (X ++ (Y ++ Z)) o). ⊎_elim
      (λ (g : Contains X o). node_repeats r trees k i (is_inner s (as_key first)) o g)
      (λ (g : Contains (Y ++ Z) o). ⊎_elim
      (λ (g : Contains Y o). node_repeats r trees v j (is_inner s (as_value first)) o g)
      (λ (g : Contains Z o). pairs_repeat r trees ps h (add_key w ks) x s (λ b d m. f b d (is_later ((i, k), (j, v)) (pairs_from h ps) (b, d) m)) later o g)
      (Contains-append_cases Y Z o g))
      (Contains-append_cases X (Y ++ Z) o g))
      (Contains-append_cases K (X ++ (Y ++ Z)) o c)

roots_repeat : (r : Lists) (trees : List DocumentTree) (ds : List DocumentTree) (i : ℕ) → ((x : NumberedNode) → Contains (roots_from i ds) x → IsNodeOf trees x)
    → (o : ℕ) → Contains (found_in_documents r.resolved i ds) o → Repeated r trees o
roots_repeat r trees [] i f o c = absurd (nothing_in o c)
roots_repeat r trees (d ∷ ds) i f o c =
    let j = i + length (flat_document d) in
    ⊎_elim
    (λ (h : Contains (found_in r.resolved (i + 1) d.root) o). node_repeats r trees d.root (i + 1) (f (i + 1, d.root) (is_head (i + 1, d.root) (roots_from j ds))) o h)
    (λ (h : Contains (found_in_documents r.resolved j ds) o). roots_repeat r trees ds j (λ x m. f x (is_later (i + 1, d.root) (roots_from j ds) x m)) o h)
    (Contains-append_cases (found_in r.resolved (i + 1) d.root) (found_in_documents r.resolved j ds) o c)

-- the other way: each finding in a part is a finding in the whole
pub first_same : {a b : NumberedNode} {c d : NumberedNode} → ◌≡◌ {A = NumberedPair} (a, c) (b, d) → a ≡ b
first_same e = ap (λ (p : NumberedPair). p.0) e

pub second_same : {a b : NumberedNode} {c d : NumberedNode} → ◌≡◌ {A = NumberedPair} (a, c) (b, d) → c ≡ d
second_same e = ap (λ (p : NumberedPair). p.1) e

items_found : (tags : List (Option (List ℕ))) (xs : Items) (i : ℕ) (y : NumberedNode) (o : ℕ) → Contains (items_from i xs) y → Contains (found_in tags y.0 y.1) o
    → Contains (found_in_items tags i xs) o
items_found tags no_items i y o c h = absurd (nothing_in y c)
items_found tags (item x xs) i y o c h =
    let j = i + length (flat x) in
    ⊎_elim
    (λ (e : ◌≡◌ {A = NumberedNode} (i, x) y). Contains-append_left (found_in tags i x) (found_in_items tags j xs) o (subst (λ (z : NumberedNode). Contains (found_in tags z.0 z.1) o) (sym e) h))
    (λ (m : Contains (items_from j xs) y). Contains-append_right (found_in tags i x) (found_in_items tags j xs) o (items_found tags xs j y o m h))
    (head_or_later (i, x) (items_from j xs) y c)

pairs_found : (tags : List (Option (List ℕ))) (ps : Pairs) (i : ℕ) (ks : List KeyValue) (k v : NumberedNode) (o : ℕ) → Contains (pairs_from i ps) (k, v)
    → Contains (found_in tags k.0 k.1) o ⊎ Contains (found_in tags v.0 v.1) o → Contains (found_in_pairs tags i ks ps) o
pairs_found tags no_pairs i ks k v o c h = absurd (nothing_in (k, v) c)
pairs_found tags (pair a b ps) i ks k v o c h =
    let w = key_of tags i a in
    let j = i + length (flat a) in
    let n = j + length (flat b) in
    let K = offset_if (is_known w ks) (key_place a) in
    let X = found_in tags i a in
    let Y = found_in tags j b in
    let Z = found_in_pairs tags n (add_key w ks) ps in
    Contains-append_right K (X ++ (Y ++ Z)) o (⊎_elim
    (λ (e : ◌≡◌ {A = NumberedPair} ((i, a), (j, b)) (k, v)). ⊎_elim
    (λ (g : Contains (found_in tags k.0 k.1) o). Contains-append_left X (Y ++ Z) o (subst (λ (z : NumberedNode). Contains (found_in tags z.0 z.1) o) (sym (first_same e)) g))
    (λ (g : Contains (found_in tags v.0 v.1) o).
    Contains-append_right X (Y ++ Z) o (Contains-append_left Y Z o (subst (λ (z : NumberedNode). Contains (found_in tags z.0 z.1) o) (sym (second_same e)) g)))
    h)
    (λ (m : Contains (pairs_from n ps) (k, v)). Contains-append_right X (Y ++ Z) o (Contains-append_right Y Z o (pairs_found tags ps n (add_key w ks) k v o m h)))
    (head_or_later ((i, a), (j, b)) (pairs_from n ps) (k, v) c))

item_found : (tags : List (Option (List ℕ))) (i : ℕ) (x : Node) (y : NumberedNode) (o : ℕ) → Contains (items_of i x) y → Contains (found_in tags y.0 y.1) o → Contains (found_in tags i x) o
item_found tags i (scalar at props style text lines) y o c h = absurd (nothing_in y c)
item_found tags i (alias at name) y o c h = absurd (nothing_in y c)
item_found tags i (sequence at flow props items) y o c h = items_found tags items (i + 1) y o c h
item_found tags i (mapping at flow props pairs) y o c h = absurd (nothing_in y c)

pair_found : (tags : List (Option (List ℕ))) (i : ℕ) (x : Node) (k v : NumberedNode) (o : ℕ) → Contains (pairs_of i x) (k, v)
    → Contains (found_in tags k.0 k.1) o ⊎ Contains (found_in tags v.0 v.1) o → Contains (found_in tags i x) o
pair_found tags i (scalar at props style text lines) k v o c h = absurd (nothing_in (k, v) c)
pair_found tags i (alias at name) k v o c h = absurd (nothing_in (k, v) c)
pair_found tags i (sequence at flow props items) k v o c h = absurd (nothing_in (k, v) c)
pair_found tags i (mapping at flow props pairs) k v o c h = pairs_found tags pairs (i + 1) [] k v o c h

held_found : (tags : List (Option (List ℕ))) (x y : NumberedNode) (o : ℕ) → IsChildOf x y → Contains (found_in tags y.0 y.1) o → Contains (found_in tags x.0 x.1) o
held_found tags x y o (as_item c) h = item_found tags x.0 x.1 y o c h
held_found tags x y o (as_key {v = v} c) h = pair_found tags x.0 x.1 y v o c (inl h)
held_found tags x y o (as_value {k = k} c) h = pair_found tags x.0 x.1 k y o c (inr h)

roots_found : (tags : List (Option (List ℕ))) (ds : List DocumentTree) (i : ℕ) (x : NumberedNode) (o : ℕ) → Contains (roots_from i ds) x → Contains (found_in tags x.0 x.1) o
    → Contains (found_in_documents tags i ds) o
roots_found tags [] i x o c h = absurd (nothing_in x c)
roots_found tags (d ∷ ds) i x o c h =
    let j = i + length (flat_document d) in
    ⊎_elim
    (λ (e : ◌≡◌ {A = NumberedNode} (i + 1, d.root) x). Contains-append_left (found_in tags (i + 1) d.root) (found_in_documents tags j ds) o (subst (λ (z : NumberedNode). Contains (found_in tags z.0 z.1) o) (sym e) h))
    (λ (m : Contains (roots_from j ds) x). Contains-append_right (found_in tags (i + 1) d.root) (found_in_documents tags j ds) o (roots_found tags ds j x o m h))
    (head_or_later (i + 1, d.root) (roots_from j ds) x c)

all_found_in : (tags : List (Option (List ℕ))) (trees : List DocumentTree) (x : NumberedNode) (o : ℕ) → IsNodeOf trees x → Contains (found_in tags x.0 x.1) o
    → Contains (found_in_documents tags 1 trees) o
all_found_in tags trees x o (is_root c) h = roots_found tags trees 1 x o c h
all_found_in tags trees y o (is_inner {x = x} s q) h = all_found_in tags trees x o s (held_found tags x y o q h)

-- a key that is equal to an earlier one is found
known_found : (tags : List (Option (List ℕ))) (ps : Pairs) (i : ℕ) (ks : List KeyValue) (k v : NumberedNode) (w : KeyValue) → has_key w ks ≡ true → Contains (pairs_from i ps) (k, v)
    → key_at tags k ≡ Some w → Contains (found_in_pairs tags i ks ps) (key_place k.1)
known_found tags no_pairs i ks k v w e c q = absurd (nothing_in (k, v) c)
known_found tags (pair a b ps) i ks k v w e c q =
    let u = key_of tags i a in
    let j = i + length (flat a) in
    let n = j + length (flat b) in
    let K = offset_if (is_known u ks) (key_place a) in
    let X = found_in tags i a in
    let Y = found_in tags j b in
    let Z = found_in_pairs tags n (add_key u ks) ps in
    let o = key_place k.1 in
    ⊎_elim
    (λ (s : ◌≡◌ {A = NumberedPair} ((i, a), (j, b)) (k, v)).
    let z : ◌≡◌ {A = NumberedNode} (i, a) k = first_same s in
    let p : u ≡ Some w = ap (λ (y : NumberedNode). key_at tags y) z ∙ q in
    subst (λ (y : NumberedNode). Contains (K ++ (X ++ (Y ++ Z))) (key_place y.1)) z
    (Contains-append_left K (X ++ (Y ++ Z)) (key_place a) (is_found (is_known u ks) (key_place a) (ap (λ y. is_known y ks) p ∙ e))))
    (λ (m : Contains (pairs_from n ps) (k, v)). Contains-append_right K (X ++ (Y ++ Z)) o (Contains-append_right X (Y ++ Z) o (Contains-append_right Y Z o
    (known_found tags ps n (add_key u ks) k v w (known_more u w ks e) m q))))
    (head_or_later ((i, a), (j, b)) (pairs_from n ps) (k, v) c)

pairs_late : (ps : Pairs) (i : ℕ) (l m : NumberedNode) → Contains (pairs_from i ps) (l, m) → i ≤ l.0
pairs_late no_pairs i l m c = absurd (nothing_in (l, m) c)
pairs_late (pair a b ps) i l m c =
    let n = i + length (flat a) + length (flat b) in
    ⊎_elim
    (λ (s : ◌≡◌ {A = NumberedPair} ((i, a), (i + length (flat a), b)) (l, m)). let z : i ≡ l.0 = ap (λ (y : NumberedNode). y.0) (first_same s) in omega (arith, z))
    (λ (h : Contains (pairs_from n ps) (l, m)). let z = pairs_late ps n l m h in omega (arith, z))
    (head_or_later ((i, a), (i + length (flat a), b)) (pairs_from n ps) (l, m) c)

twice_found : (tags : List (Option (List ℕ))) (ps : Pairs) (i : ℕ) (ks : List KeyValue) (k v l m : NumberedNode) (w : KeyValue) → Contains (pairs_from i ps) (k, v) → Contains (pairs_from i ps) (l, m)
    → l.0 < k.0 → key_at tags k ≡ Some w → key_at tags l ≡ Some w → Contains (found_in_pairs tags i ks ps) (key_place k.1)
twice_found tags no_pairs i ks k v l m w c d lt q p = absurd (nothing_in (k, v) c)
twice_found tags (pair a b ps) i ks k v l m w c d lt q p =
    let u = key_of tags i a in
    let j = i + length (flat a) in
    let n = j + length (flat b) in
    let K = offset_if (is_known u ks) (key_place a) in
    let X = found_in tags i a in
    let Y = found_in tags j b in
    let Z = found_in_pairs tags n (add_key u ks) ps in
    let o = key_place k.1 in
    ⊎_elim
    (λ (s : ◌≡◌ {A = NumberedPair} ((i, a), (j, b)) (k, v)). absurd (let z : i ≡ k.0 = ap (λ (y : NumberedNode). y.0) (first_same s) in let g = pairs_late (pair a b ps) i l m d in omega (arith, z, g, lt)))
    (λ (g : Contains (pairs_from n ps) (k, v)). Contains-append_right K (X ++ (Y ++ Z)) o (Contains-append_right X (Y ++ Z) o (Contains-append_right Y Z o
    (⊎_elim
    (λ (s : ◌≡◌ {A = NumberedPair} ((i, a), (j, b)) (l, m)). let t : u ≡ Some w = ap (λ (y : NumberedNode). key_at tags y) (first_same s) ∙ p in
    known_found tags ps n (add_key u ks) k v w (known_added u w ks t) g q)
    (λ (f : Contains (pairs_from n ps) (l, m)). twice_found tags ps n (add_key u ks) k v l m w g f lt q p)
    (head_or_later ((i, a), (j, b)) (pairs_from n ps) (l, m) d)))))
    (head_or_later ((i, a), (j, b)) (pairs_from n ps) (k, v) c)

twice_in : (tags : List (Option (List ℕ))) (i : ℕ) (x : Node) (k v l m : NumberedNode) (w : KeyValue) → Contains (pairs_of i x) (k, v) → Contains (pairs_of i x) (l, m)
    → l.0 < k.0 → key_at tags k ≡ Some w → key_at tags l ≡ Some w → Contains (found_in tags i x) (key_place k.1)
twice_in tags i (scalar at props style text lines) k v l m w c d lt q p = absurd (nothing_in (k, v) c)
twice_in tags i (alias at name) k v l m w c d lt q p = absurd (nothing_in (k, v) c)
twice_in tags i (sequence at flow props items) k v l m w c d lt q p = absurd (nothing_in (k, v) c)
twice_in tags i (mapping at flow props pairs) k v l m w c d lt q p = twice_found tags pairs (i + 1) [] k v l m w c d lt q p

key_from_text : (tags : List (Option (List ℕ))) (i : ℕ) (x : Node) (text : List ℕ) → scalar_text x ≡ Some text → key_of tags i x ≡ Some (text, slice_get tags i)
key_from_text tags i (scalar at props style y lines) text e = ap (λ z. Some (z, slice_get tags i)) (same_Some _ _ e)
key_from_text tags i (alias at name) text e = absurd (none_some e)
key_from_text tags i (sequence at flow props items) text e = absurd (none_some e)
key_from_text tags i (mapping at flow props pairs) text e = absurd (none_some e)

repeated_found : (r : Lists) (trees : List DocumentTree) (n o : ℕ) → RepeatedKey r trees n o → Contains (found_in_documents r.resolved 1 trees) o
repeated_found r trees n o (repeats {x} {k} {v} {l} {w} {text} s c d lt e q p t) =
    let tags = r.resolved in
    let a = key_from_text tags k.0 k.1 text q in
    let b = key_from_text tags l.0 l.1 text p ∙ ap (λ z. Some (text, z)) (sym t) in
    all_found_in tags trees x (key_place k.1) s (twice_in tags x.0 x.1 k v l w (text, slice_get tags k.0) c d lt a b)

pub exactly_repeated : (r : Lists) (trees : List DocumentTree) (offsets : List ℕ) → offsets ≡ found_in_documents r.resolved 1 trees → Exactly (RepeatedKey r trees) offsets
exactly_repeated r trees offsets e = record {
  only = λ o c. roots_repeat r trees trees 1 (λ x h. is_root h) o (subst (λ os. Contains os o) e c);
  all = λ n o q. subst (λ os. Contains os o) (sym e) (repeated_found r trees n o q);
}
