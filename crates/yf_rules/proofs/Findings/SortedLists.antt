-- The members of a strictly sorted list determine it. The list that is sorted determines a stable sort, except for a
-- value of each element on which its key depends.
use Rattle.std.proofs.Common.{◌≡◌, ◌&&◌, suc, ◌+◌, Bool, true, false, List, [], ◌∷◌, get_or, map, refl, sym, subst, ap, ◌∙◌, ⊎_elim, arith, true≢false}
use Rattle.std.specs.Prelude.{cond, filter, not}
use Rattle.std.specs.Cmp.{IsStrictWeakOrder, IsTotalOrder}
use Rattle.std.specs.List.{Contains}
use Rattle.std.specs.List.Sorted.{IsSortedBy, IsSortedByKey, IsStrictlySortedBy, ties}
use Rattle.std.specs.Ordering.{is_lt}
use Rattle.std.specs.declared.cmp.Ordering.{Ordering}
use Rattle.std.specs.declared.cmp.Ordering.TheVariants.{Less}
use Rattle.std.proofs.lemmas.Bool.{and_from, and_parts, cases_Bool, not-true}
use Rattle.std.proofs.lemmas.Cmp.{tied_itself}
use Rattle.std.proofs.lemmas.List.Elements.{All-contains}
use Rattle.std.proofs.lemmas.List.Sorted.{ranks_by, sorted_far}
use Rattle.std.proofs.lemmas.Map.Keys.{sorted_tail}
use Rattle.std.proofs.lemmas.Map.Views.{All-after_first}
use Rattle.yf_rule_sets.proofs.RuleSets.KeySetLemmas.{head_or_later, is_head, is_later, nothing_in}

-- Strictly sorted lists with the same members are equal.
module _ {K : Type 0} {R : K → K → Ordering} (o : IsTotalOrder R) where
  not_before_itself : (x : K) → R x x ≡ Less → ⊥
  not_before_itself x e = let t = tied_itself o x in cc

  before_later : (x : K) (xs : List K) → IsStrictlySortedBy R (x ∷ xs) → (y : K) → Contains xs y → R x y ≡ Less
  before_later x xs s y c = All-contains (λ z. R x z ≡ Less) xs y (All-after_first R x xs s) c

  same_heads : (x : K) (xs : List K) (y : K) (ys : List K) → IsStrictlySortedBy R (x ∷ xs) → IsStrictlySortedBy R (y ∷ ys)
      → Contains (y ∷ ys) x → Contains (x ∷ xs) y → y ≡ x
  same_heads x xs y ys s t f g =
      ⊎_elim (λ (e : y ≡ x). e)
      (λ (c : Contains ys x). ⊎_elim (λ (e : x ≡ y). sym e)
      (λ (d : Contains xs y). absurd (not_before_itself x (o.trans x y x (before_later x xs s y d) (before_later y ys t x c))))
      (head_or_later x xs y g))
      (head_or_later y ys x f)

  -- what is later in one is later in the other
  later_too : (x : K) (xs : List K) (y : K) (ys : List K) → IsStrictlySortedBy R (x ∷ xs) → y ≡ x → (z : K) → Contains xs z
      → Contains (y ∷ ys) z → Contains ys z
  later_too x xs y ys s same z c f =
      ⊎_elim (λ (e : y ≡ z). absurd (not_before_itself x (subst (λ w. R x w ≡ Less) (sym e ∙ same) (before_later x xs s z c))))
      (λ (d : Contains ys z). d) (head_or_later y ys z f)

  pub strictly_sorted_one : (xs ys : List K) → IsStrictlySortedBy R xs → IsStrictlySortedBy R ys
      → ((z : K) → Contains xs z → Contains ys z) → ((z : K) → Contains ys z → Contains xs z) → ys ≡ xs
  strictly_sorted_one [] [] s t f g = refl
  strictly_sorted_one [] (y ∷ ys) s t f g = absurd (nothing_in y (g y (is_head y ys)))
  strictly_sorted_one (x ∷ xs) [] s t f g = absurd (nothing_in x (f x (is_head x xs)))
  strictly_sorted_one (x ∷ xs) (y ∷ ys) s t f g =
      let same : y ≡ x = same_heads x xs y ys s t (f x (is_head x xs)) (g y (is_head y ys)) in
      let rest : ys ≡ xs = strictly_sorted_one xs ys (sorted_tail R x xs s) (sorted_tail R y ys t)
      (λ z c. later_too x xs y ys s same z c (f z (is_later x xs z c)))
      (λ z c. later_too y ys x xs t (sym same) z c (g z (is_later y ys z c))) in
      cc

-- Filters of lists with elements of equal values.
module _ {X T : Type 0} (value : X → T) where
  -- lists with equal values have equal values after a filter on the value
  pub filter_values : (p : X → Bool) → ((x y : X) → value y ≡ value x → p y ≡ p x) → (xs ys : List X)
      → map value ys ≡ map value xs → map value (filter p ys) ≡ map value (filter p xs)
  filter_values p by [] [] e = refl
  filter_values p by [] (y ∷ ys) e = absurd (let w : (value y ∷ map value ys) ≡ [] = e in cc)
  filter_values p by (x ∷ xs) [] e = absurd (let w : [] ≡ (value x ∷ map value xs) = e in cc)
  filter_values p by (x ∷ xs) (y ∷ ys) e =
      let w : (value y ∷ map value ys) ≡ (value x ∷ map value xs) = e in
      let head : value y ≡ value x = cc in
      let rest : map value (filter p ys) ≡ map value (filter p xs) = filter_values p by xs ys (cc) in
      go (p y) (p x) (by x y head) head rest where
        go : (b c : Bool) → b ≡ c → value y ≡ value x → map value (filter p ys) ≡ map value (filter p xs)
            → map value (cond b (y ∷ filter p ys) (filter p ys)) ≡ map value (cond c (x ∷ filter p xs) (filter p xs))
        go true true e h r = cc
        go true false e h r = absurd (true≢false e)
        go false true e h r = absurd (true≢false (sym e))
        go false false e h r = r

  -- an element that a filter removes
  pub some_passes : (p : X → Bool) (xs : List X) (t : T) (ts : List T) → map value (filter p xs) ≡ t ∷ ts
      → (z : X) × Contains xs z × (p z ≡ true)
  some_passes p [] t ts e = absurd (let w : [] ≡ (t ∷ ts) = e in cc)
  some_passes p (x ∷ xs) t ts e =
      ⊎_elim (λ (h : p x ≡ true). (x, is_head x xs, h))
      (λ (h : p x ≡ false).
      let w = some_passes p xs t ts (subst (λ b. map value (cond b (x ∷ filter p xs) (filter p xs)) ≡ t ∷ ts) h e) in
      (w.0, is_later x xs w.0 w.1, w.2))
      (cases_Bool (p x))

  -- without their first elements, if the filter removes both or neither
  pub rest_values : (p : X → Bool) (x : X) (xs : List X) (y : X) (ys : List X) → p y ≡ p x
      → map value (filter p (y ∷ ys)) ≡ map value (filter p (x ∷ xs)) → map value (filter p ys) ≡ map value (filter p xs)
  rest_values p x xs y ys same e = go (p y) (p x) same e where
    go : (b c : Bool) → b ≡ c → map value (cond b (y ∷ filter p ys) (filter p ys)) ≡ map value (cond c (x ∷ filter p xs) (filter p xs))
        → map value (filter p ys) ≡ map value (filter p xs)
    go true true e h = let w : (value y ∷ map value (filter p ys)) ≡ (value x ∷ map value (filter p xs)) = h in cc
    go true false e h = absurd (true≢false e)
    go false true e h = absurd (true≢false (sym e))
    go false false e h = h

  head_value : (p : X → Bool) (x : X) (xs : List X) (y : X) (ys : List X) → p x ≡ true → p y ≡ true
      → map value (filter p (y ∷ ys)) ≡ map value (filter p (x ∷ xs)) → value y ≡ value x
  head_value p x xs y ys a b e = go (p y) (p x) b a e where
    go : (b c : Bool) → b ≡ true → c ≡ true → map value (cond b (y ∷ filter p ys) (filter p ys)) ≡ map value (cond c (x ∷ filter p xs) (filter p xs))
        → value y ≡ value x
    go true true d e h = let w : (value y ∷ map value (filter p ys)) ≡ (value x ∷ map value (filter p xs)) = h in cc
    go true false d e h = absurd (true≢false (sym e))
    go false true d e h = absurd (true≢false (sym d))
    go false false d e h = absurd (true≢false (sym d))

  passing_value : (p : X → Bool) (x : X) (xs : List X) → p x ≡ true → map value (filter p (x ∷ xs)) ≡ value x ∷ map value (filter p xs)
  passing_value p x xs h = ap (λ b. map value (cond b (x ∷ filter p xs) (filter p xs))) h

-- Two sorted lists have equal values, if the elements that tie with any one have equal values in both.
module _ {X T K : Type 0} (value : X → T) (key : X → K) {R : K → K → Ordering} (o : IsTotalOrder R)
    (keyed : (x y : X) → value y ≡ value x → key y ≡ key x) where
  abbrev less : X → X → Bool
  less x y = is_lt (R (key x) (key y))

  order : IsStrictWeakOrder less
  order = ranks_by o key

  not_less_itself : (x : X) → less x x ≡ false
  not_less_itself x = ap is_lt (tied_itself o (key x))

  tie : (x y : X) → less x y ≡ false → less y x ≡ false → ties less x y ≡ true
  tie x y a b = and_from _ _ (ap not a) (ap not b)

  untie : (x y : X) → ties less x y ≡ true → less x y ≡ false
  untie x y h = not-true (less x y) (and_parts (not (less x y)) (not (less y x)) h).0

  tied_alike : (e x y : X) → value y ≡ value x → ties less e y ≡ ties less e x
  tied_alike e x y h = ap (λ k. not (is_lt (R (key e) k)) && not (is_lt (R k (key e)))) (keyed x y h)

  first_least : (x : X) (xs : List X) → IsSortedBy less (x ∷ xs) → (z : X) → Contains (x ∷ xs) z → less z x ≡ false
  first_least x xs up z c = subst (λ w. less w x ≡ false) c.2 (sorted_far less order (x ∷ xs) up 0 c.0 z (omega arith) c.1)

  later_sorted : (x : X) (xs : List X) → IsSortedBy less (x ∷ xs) → IsSortedBy less xs
  later_sorted x xs up k d from to =
      let next : suc k + 1 ≡ suc (k + 1) = omega arith in
      subst (λ j. less (get_or (x ∷ xs) j d) (get_or xs k d) ≡ false) next (up (suc k) d (omega arith) (omega arith))

  -- the first of one list is not after that of the other
  not_after : (x : X) (xs : List X) (y : X) (ys : List X) → IsSortedBy less (y ∷ ys)
      → map value (filter (ties less x) (y ∷ ys)) ≡ map value (filter (ties less x) (x ∷ xs)) → less x y ≡ false
  not_after x xs y ys up e =
      let w = some_passes value (ties less x) (y ∷ ys) (value x) (map value (filter (ties less x) xs))
      (e ∙ passing_value value (ties less x) x xs (tie x x (not_less_itself x) (not_less_itself x))) in
      order.chain x w.0 y (untie x w.0 w.2) (first_least y ys up w.0 w.1)

  pub stable_sort_one : (xs ys : List X) → IsSortedByKey key R xs → IsSortedByKey key R ys
      → ((e : X) → map value (filter (ties less e) ys) ≡ map value (filter (ties less e) xs)) → map value ys ≡ map value xs
  stable_sort_one [] [] s t f = refl
  stable_sort_one [] (y ∷ ys) s t f =
      let w : [] ≡ (value y ∷ map value (filter (ties less y) ys)) = sym (f y) ∙ passing_value value (ties less y) y ys (tie y y (not_less_itself y) (not_less_itself y)) in absurd (cc)
  stable_sort_one (x ∷ xs) [] s t f =
      let w : [] ≡ (value x ∷ map value (filter (ties less x) xs)) = f x ∙ passing_value value (ties less x) x xs (tie x x (not_less_itself x) (not_less_itself x)) in absurd (cc)
  stable_sort_one (x ∷ xs) (y ∷ ys) s t f =
      let a : less x y ≡ false = not_after x xs y ys t (f x) in
      let b : less y x ≡ false = not_after y ys x xs s (sym (f y)) in
      let head : value y ≡ value x = head_value value (ties less x) x xs y ys (tie x x (not_less_itself x) (not_less_itself x)) (tie x y a b) (f x) in
      let rest : map value ys ≡ map value xs = stable_sort_one xs ys (later_sorted x xs s) (later_sorted y ys t)
      (λ e. rest_values value (ties less e) x xs y ys (tied_alike e x y head) (f e)) in
      cc
