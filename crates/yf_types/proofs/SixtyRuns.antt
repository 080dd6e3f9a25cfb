-- Tests for parts in base 60, with the length of the text as a bound.
use Rattle.std.proofs.Common.{◌≡◌, ℕ, zero, suc, ◌≤◌, ◌<◌, Bool, true, false, true≢false, ne_eqb, arith, List, []}
use Rattle.std.proofs.Common.{◌∷◌, refl, sym, subst, ap, ◌∙◌}
use Rattle.std.specs.Prelude.{◌&&◌, ◌||◌, length, Option, Some, None, if◌then◌else◌}
use Rattle.yf_lines.specs.CoreSchema.{Pattern, is_digit, repeated}
use Rattle.yf_types.specs.OlderSchema.{is_colon, is_zero_to_five, sixty}
use Rattle.yf_types.specs.Sixties.{after_sixty}
use Rattle.yf_types.specs.Tests.{after_match, after_times}

abbrev NoDigit : (List ℕ → Bool) → Type 0
NoDigit k = (b : ℕ) (t : List ℕ) → is_digit b ≡ true → k (b ∷ t) ≡ false

abbrev passes_after : (List ℕ → Bool) → Option (List ℕ) → Bool
passes_after k None = false
passes_after k (Some t) = k t

pub or_false : (p : Bool) → (p || false) ≡ p
or_false true = refl
or_false false = refl

and_false : (p : Bool) → (p && false) ≡ false
and_false true = refl
and_false false = refl

-- the text passes before any part
pub passes_now : (p : Pattern) (k : List ℕ → Bool) (t : List ℕ) → k t ≡ true → after_match (repeated p) k t ≡ true
passes_now p k [] e = e
passes_now p k (c ∷ t) e = rw e refl

-- one part

one_part : (k : List ℕ → Bool) → NoDigit k → (t : List ℕ) → after_match sixty k t ≡ passes_after k (after_sixty t)
one_part k n [] = refl
one_part k n (c ∷ []) = and_false (is_colon c)
one_part k n (c ∷ d ∷ []) = by (is_colon c) (is_zero_to_five d) (is_digit d) where
  by : (p q r : Bool) → (p && ((q && false) || (r && k []))) ≡ passes_after k (if p && r then Some [] else None)
  by true true true = refl
  by true true false = refl
  by true false true = refl
  by true false false = refl
  by false q r = refl
one_part k n (c ∷ d ∷ e ∷ t) = by (is_colon c) (is_zero_to_five d) (is_digit d) (is_digit e) refl where
  by : (p q r s : Bool) → is_digit e ≡ s
      → (p && ((q && (s && k t)) || (r && k (e ∷ t)))) ≡ passes_after k
      (if p then (if q && s then Some t else if r then Some (e ∷ t) else None) else None)
  by false q r s f = refl
  by true true true true f = ap (λ x. k t || x) (n e t f) ∙ or_false (k t)
  by true true false true f = or_false (k t)
  by true true true false f = refl
  by true true false false f = refl
  by true false true s f = refl
  by true false false s f = refl

-- a part is not empty

abbrev IsShorter : Option (List ℕ) → ℕ → Type 0
IsShorter None n = Unit {0}
IsShorter (Some t) n = length t < n

pub part_shorter : (t : List ℕ) → IsShorter (after_sixty t) (length t)
part_shorter [] = tt
part_shorter (c ∷ []) = tt
part_shorter (c ∷ d ∷ []) = by (is_colon c && is_digit d) where
  by : (p : Bool) → IsShorter (if p then Some [] else None) 2
  by true = omega arith
  by false = tt
part_shorter (c ∷ d ∷ e ∷ t) = by (is_colon c) (is_zero_to_five d && is_digit e) (is_digit d) where
  by : (p q r : Bool)
      → IsShorter (if p then (if q then Some t else if r then Some (e ∷ t) else None) else None)
      (length (c ∷ d ∷ e ∷ t))
  by true true r = omega arith
  by true false true = omega arith
  by true false false = tt
  by false q r = tt

same_after : (f g : List ℕ → Bool) (m : ℕ) → ((u : List ℕ) → length u < m → f u ≡ g u) → (o : Option (List ℕ))
    → IsShorter o m
    → passes_after f o ≡ passes_after g o
same_after f g m h None w = refl
same_after f g m h (Some u) w = h u w

-- several parts

module _ (k : List ℕ → Bool) (n : NoDigit k) where
  many_no_digit : (m : ℕ) → NoDigit (after_times (after_match sixty) m k)
  many_no_digit zero b t e = n b t e
  many_no_digit (suc m) b t e = rw (n b t e, ne_eqb b 58 (λ g. true≢false (sym e ∙ ap is_digit g))) refl

  next_part : (m : ℕ) (t : List ℕ)
      → after_times (after_match sixty) (suc m) k t ≡
      (k t || passes_after (after_times (after_match sixty) m k) (after_sixty t))
  next_part m t = ap (λ x. k t || x) (one_part (after_times (after_match sixty) m k) (many_no_digit m) t)

  -- any two bounds that are large enough give one result
  enough : (n a b : ℕ) (t : List ℕ) → length t ≤ n → length t ≤ a → length t ≤ b
      → after_times (after_match sixty) a k t ≡ after_times (after_match sixty) b k t
  enough n zero zero t h i j = refl
  enough n zero (suc b) [] h i j = sym (or_false (k []))
  enough n zero (suc b) (c ∷ t) h i j = absurd (omega (arith, i))
  enough n (suc a) zero [] h i j = or_false (k [])
  enough n (suc a) zero (c ∷ t) h i j = absurd (omega (arith, j))
  enough zero (suc a) (suc b) [] h i j = refl
  enough zero (suc a) (suc b) (c ∷ t) h i j = absurd (omega (arith, h))
  enough (suc n) (suc a) (suc b) t h i j =
      next_part a t
      ∙ ap (λ x. k t || x)
      (same_after (after_times (after_match sixty) a k) (after_times (after_match sixty) b k) (length t)
      (λ u w. enough n a b u (omega (arith, h, w)) (omega (arith, i, w)) (omega (arith, j, w))) (after_sixty t)
      (part_shorter t))
      ∙ sym (next_part b t)

  -- the parts that are left after one
  pub parts_after : (t u : List ℕ) → k t ≡ false → after_sixty t ≡ Some u
      → after_match (repeated sixty) k t ≡ after_match (repeated sixty) k u
  parts_after [] u f e = absurd cc
  parts_after (c ∷ t) u f e =
      let s : length u < length (c ∷ t) =
      subst (λ (o : Option (List ℕ)). IsShorter o (length (c ∷ t))) e (part_shorter (c ∷ t)) in
      next_part (length t) (c ∷ t)
      ∙ rw (f, e) (enough (length t) (length t) (length u) u (omega (arith, s)) (omega arith) (omega arith))

  pub no_parts : (t : List ℕ) → k t ≡ false → after_sixty t ≡ None → after_match (repeated sixty) k t ≡ false
  no_parts [] f e = f
  no_parts (c ∷ t) f e = next_part (length t) (c ∷ t) ∙ rw (f, e) refl
