-- Numbers that digits mean.
use Rattle.std.proofs.Common.{◌≡◌, ℕ, ◌+◌, ◌*◌, ◌^◌, ◌<◌, ◌≤◌, length, Bool, true, false, arith, List, [], ◌∷◌, refl}
use Rattle.std.proofs.Common.{sym, subst, ◌∙◌, mul-le-mul_left, le_trans}
use Rattle.std.specs.Prelude.{if◌then◌else◌, slice_index}
use Rattle.yf_types.specs.Meanings.{digit_step, next_part, next_sum}
use Rattle.yf_types.specs.OlderSchema.{is_colon, is_underscore}
use Rattle.yf_types.specs.Values.{digit_value, digits_from, sixties_from}

pub digits_next : (base n b : ℕ) (t : List ℕ) → digits_from base n (b ∷ t) ≡ digits_from base (digit_step base n b) t
digits_next base n b t = by (is_underscore b) where
  by : (v : Bool) → (if v then digits_from base n t else digits_from base (n * base + digit_value b) t)
      ≡ digits_from base (if v then n else n * base + digit_value b) t
  by true = refl
  by false = refl

step_least : (base n b : ℕ) → 1 ≤ base → n ≤ digit_step base n b
step_least base n b l = by (is_underscore b) where
  by : (v : Bool) → n ≤ (if v then n else n * base + digit_value b)
  by true = omega arith
  by false = omega (arith, mul-le-mul_left n l)

pub digits_least : (base n : ℕ) (t : List ℕ) → 1 ≤ base → n ≤ digits_from base n t
digits_least base n [] l = omega arith
digits_least base n (b ∷ t) l =
    subst (λ m. n ≤ m) (sym (digits_next base n b t))
    (le_trans (step_least base n b l) (digits_least base (digit_step base n b) t l))

pub sixties_next : (sum part b : ℕ) (t : List ℕ)
    → sixties_from sum part (b ∷ t) ≡ sixties_from (next_sum sum part b) (next_part part b) t
sixties_next sum part b t = by (is_colon b) (is_underscore b) where
  by : (c v : Bool) → (if c then sixties_from ((sum + part) * 60) 0 t
      else if v then sixties_from sum part t else sixties_from sum (part * 10 + digit_value b) t)
      ≡ sixties_from (if c then (sum + part) * 60 else sum)
      (if c then 0 else if v then part else part * 10 + digit_value b) t
  by true v = refl
  by false true = refl
  by false false = refl

parts_least : (sum part b : ℕ) → sum + part ≤ next_sum sum part b + next_part part b
parts_least sum part b = by (is_colon b) (is_underscore b) where
  by : (c v : Bool) → sum + part
      ≤ (if c then (sum + part) * 60 else sum) + (if c then 0 else if v then part else part * 10 + digit_value b)
  by true v = omega arith
  by false true = omega arith
  by false false = omega arith

pub sixties_least : (sum part : ℕ) (t : List ℕ) → sum + part ≤ sixties_from sum part t
sixties_least sum part [] = omega arith
sixties_least sum part (b ∷ t) =
    subst (λ m. sum + part ≤ m) (sym (sixties_next sum part b t))
    (le_trans (parts_least sum part b) (sixties_least (next_sum sum part b) (next_part part b) t))

-- The ends of the loops.

pub digits_end : (base n m : ℕ) (rest : List ℕ) → length rest < 1 → (n < 2 ^ 64) × (digits_from base n rest ≡ m)
    → (m < 2 ^ 64) × (n ≡ m)
digits_end base n m [] l w = (subst (λ x. x < 2 ^ 64) w.1 w.0, w.1)
digits_end base n m (b ∷ t) l w = absurd (omega (arith, l))

pub digits_large : (base n m : ℕ) (rest : List ℕ) → 1 ≤ base → 1 ≤ length rest → digits_from base n rest ≡ m
    → digit_step base n (slice_index rest 0) ≤ m
digits_large base n m [] l k e = absurd (omega (arith, k))
digits_large base n m (b ∷ t) l k e =
    subst (λ x. digit_step base n b ≤ x) (sym (digits_next base n b t) ∙ e)
    (digits_least base (digit_step base n b) t l)

parts_large : (sum part m : ℕ) (rest : List ℕ) → 1 ≤ length rest → sixties_from sum part rest ≡ m
    → next_sum sum part (slice_index rest 0) + next_part part (slice_index rest 0) ≤ m
parts_large sum part m [] k e = absurd (omega (arith, k))
parts_large sum part m (b ∷ t) k e =
    subst (λ x. next_sum sum part b + next_part part b ≤ x) (sym (sixties_next sum part b t) ∙ e)
    (sixties_least (next_sum sum part b) (next_part part b) t)

pub sum_large : (sum part m : ℕ) (rest : List ℕ) → 1 ≤ length rest → sixties_from sum part rest ≡ m
    → next_sum sum part (slice_index rest 0) ≤ m
sum_large sum part m rest k e = let w = parts_large sum part m rest k e in omega (arith, w)

pub part_large : (sum part m : ℕ) (rest : List ℕ) → 1 ≤ length rest → sixties_from sum part rest ≡ m
    → next_part part (slice_index rest 0) ≤ m
part_large sum part m rest k e = let w = parts_large sum part m rest k e in omega (arith, w)
