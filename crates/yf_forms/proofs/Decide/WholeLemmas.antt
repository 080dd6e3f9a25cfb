-- Whether the deciding pass takes a whole node at once.
use Rattle.std.proofs.Common.{◌≡◌, ℕ, ◌+◌, ◌-◌, ◌≤◌, Bool, true, false, refl, ap, ◌∙◌, arith}
use Rattle.std.specs.Prelude.{if◌then◌else◌, ◌==◌}
use Rattle.std.proofs.lemmas.Bool.Decides.{nat_tests}
use Rattle.yf_forms.specs.declared.form.measure.Measure.{Measure}
use Rattle.yf_forms.specs.Passes.DecidePass.{is_leaf_at, is_whole}

pub last_one : (i : ℕ) → (i + 1 - 1 == i) ≡ true
last_one i = grind (arith, nat_tests)

pub not_last : (i n : ℕ) → 2 ≤ n → (i + n - 1 == i) ≡ false
not_last i n l = grind (arith, nat_tests)

pub whole_if_kept : (i : ℕ) (m : Measure) (b : Bool) → b ≡ true → is_whole i m b ≡ true
whole_if_kept i m true e = refl
whole_if_kept i m false e = absurd cc

pub whole_if_leaf : (i : ℕ) (m : Measure) (b : Bool) → is_leaf_at i m.first_leaf ≡ true → is_whole i m b ≡ true
whole_if_leaf i m true e = refl
whole_if_leaf i m false e = ap (λ b. if b then true else m.last == i) e

pub whole_if_last : (i : ℕ) (m : Measure) (b : Bool) → (m.last == i) ≡ true → is_whole i m b ≡ true
whole_if_last i m true e = refl
whole_if_last i m false e = by (is_leaf_at i m.first_leaf) where
  by : (b : Bool) → (if b then true else m.last == i) ≡ true
  by true = refl
  by false = e

pub open_if : (i : ℕ) (m : Measure) (b : Bool) → b ≡ false → is_leaf_at i m.first_leaf ≡ false → (m.last == i) ≡ false → is_whole i m b ≡ false
open_if i m true e f g = absurd cc
open_if i m false e f g = ap (λ b. if b then true else m.last == i) f ∙ g
