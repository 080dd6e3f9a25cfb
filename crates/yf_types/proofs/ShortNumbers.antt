-- Digits with one value in the bases 8 and 10.
use Rattle.std.proofs.Common.{◌≡◌, ℕ, ◌+◌, ◌*◌, ◌<◌, ◌≤◌, Bool, true, false, cond, inl, inr, true≢false}
use Rattle.std.proofs.Common.{eq-eqb, ne_eqb, leb-true, arith, List, [], ◌∷◌, refl, sym, ap, subst, ◌≢◌, ◌∙◌}
use Rattle.std.specs.Prelude.{◌&&◌, ◌||◌, ◌==◌, nat_le}
use Rattle.std.specs.List.{list_all}
use Rattle.std.proofs.lemmas.Bool.{eqb-true}
use Rattle.yf_lines.specs.CoreSchema.{byte_of, optional, repeated, followed, is_digit, is_sign}
use Rattle.yf_types.specs.Agreement.{is_short}
use Rattle.yf_types.specs.NewerSchema.{core_decimal_pattern}
use Rattle.yf_types.specs.OlderSchema.{is_zero}
use Rattle.yf_types.specs.Tests.{after_byte, after_match, is_end, is_match}
use Rattle.yf_types.specs.Values.{digit_value, digits_from, unsigned}
use Rattle.yf_types.proofs.MatchLemmas.{both_true, one_true}
use Rattle.yf_types.proofs.SixtyRuns.{or_false}

-- a byte of a class is not one that the class leaves out
pub outside : (p : ℕ → Bool) (k : ℕ) → p k ≡ false → (b : ℕ) → p b ≡ true → (b == k) ≡ false
outside p k e b f = ne_eqb b k (λ g. true≢false (sym f ∙ (ap p g ∙ e)))

-- a test after an optional sign, if it fails for a text that begins with a sign
by_sign : (k : List ℕ → Bool) → ((b : ℕ) (t : List ℕ) → is_sign b ≡ true → k (b ∷ t) ≡ false) → (t : List ℕ)
    → (after_byte is_sign k t || k t) ≡ k (unsigned t)
by_sign k n [] = refl
by_sign k n (b ∷ t) = by (is_sign b) refl where
  by : (v : Bool) → is_sign b ≡ v → ((v && k t) || k (b ∷ t)) ≡ k (cond v t (b ∷ t))
  by true e = ap (λ x. k t || x) (n b t e) ∙ or_false (k t)
  by false e = refl

abbrev short_test : List ℕ → Bool
short_test t = after_match (followed (repeated (byte_of is_zero)) (optional (byte_of is_digit))) is_end t

abbrev digits_test : List ℕ → Bool
digits_test t = after_byte is_digit (after_match (repeated (byte_of is_digit)) is_end) t

of_sign : (p : ℕ → Bool) → p 43 ≡ false → p 45 ≡ false → (b : ℕ) → is_sign b ≡ true → p b ≡ false
of_sign p f g b e =
    elim (one_true (b == 43) (b == 45) e) [ inl h ↦ ap p (eqb-true b 43 h) ∙ f | inr h ↦ ap p (eqb-true b 45 h) ∙ g ]

short_no_sign : (b : ℕ) (t : List ℕ) → is_sign b ≡ true → short_test (b ∷ t) ≡ false
short_no_sign b t e = rw (of_sign is_digit refl refl b e, of_sign is_zero refl refl b e) refl

digits_no_sign : (b : ℕ) (t : List ℕ) → is_sign b ≡ true → digits_test (b ∷ t) ≡ false
digits_no_sign b t e = rw (of_sign is_digit refl refl b e) refl

-- digits, each of them
all_digits : (t : List ℕ) → after_match (repeated (byte_of is_digit)) is_end t ≡ true → list_all is_digit t ≡ true
all_digits [] e = refl
all_digits (b ∷ t) e =
    let w = both_true (is_digit b) (after_match (repeated (byte_of is_digit)) is_end t) e in
    rw (w.0, all_digits t w.1) refl

only_digits : (t : List ℕ) → digits_test t ≡ true → list_all is_digit t ≡ true
only_digits [] e = refl
only_digits (b ∷ t) e =
    let w = both_true (is_digit b) (after_match (repeated (byte_of is_digit)) is_end t) e in
    rw (w.0, all_digits t w.1) refl

pub decimal_digits : (t : List ℕ) → is_match core_decimal_pattern t ≡ true → list_all is_digit (unsigned t) ≡ true
decimal_digits t e = only_digits (unsigned t) (sym (by_sign digits_test digits_no_sign t) ∙ e)

-- a number in base 10 is greater after a greater start
grows : (t : List ℕ) (a b : ℕ) → a < b → list_all is_digit t ≡ true → digits_from 8 a t < digits_from 10 b t
grows [] a b l e = l
grows (c ∷ t) a b l e =
    let w = both_true (is_digit c) (list_all is_digit t) e in
    let step : a * 8 + digit_value c < b * 10 + digit_value c = omega (arith, l) in
    rw (outside is_digit 95 refl c w.0) (grows t (a * 8 + digit_value c) (b * 10 + digit_value c) step w.1)

below_differs : (m n : ℕ) → m < n → (m == n) ≡ false
below_differs m n l = ne_eqb m n (λ g. omega (arith, l, g))

abbrev HasSame : List ℕ → Type 0
HasSame t = short_test t ≡ (digits_from 8 0 t == digits_from 10 0 t)

zero_first : (t : List ℕ) → short_test (48 ∷ t) ≡ short_test t
zero_first [] = refl
zero_first (b ∷ t) = refl

positive : (b : ℕ) → is_digit b ≡ true → is_zero b ≡ false → 0 < digit_value b
positive b e z =
    let w = both_true (nat_le 48 b) (nat_le b 57) e in
    let l : 48 ≤ b = leb-true 48 b w.0 in
    let n : b ≢ 48 = λ g. true≢false (sym (eq-eqb b 48 g) ∙ z) in
    rw w.1 (omega (arith, l, n))

other_first : (b : ℕ) (t : List ℕ) → is_digit b ≡ true → list_all is_digit t ≡ true → is_zero b ≡ false
    → HasSame (b ∷ t)
other_first b [] e a z =
    rw (e, outside is_digit 95 refl b e) (sym (eq-eqb (0 * 8 + digit_value b) (0 * 10 + digit_value b) refl))
other_first b (c ∷ t) e a z =
    let w = both_true (is_digit c) (list_all is_digit t) a in
    let p : 0 < digit_value b = positive b e z in
    let m = (0 * 8 + digit_value b) * 8 + digit_value c in
    let n = (0 * 10 + digit_value b) * 10 + digit_value c in
    let l : m < n = omega (arith, p) in
    rw (e, z, outside is_digit 95 refl b e, outside is_digit 95 refl c w.0)
    (sym (below_differs (digits_from 8 m t) (digits_from 10 n t) (grows t m n l w.1)))

either_first : (b : ℕ) (t : List ℕ) (v : Bool) → is_zero b ≡ v → is_digit b ≡ true → list_all is_digit t ≡ true
    → HasSame t → HasSame (b ∷ t)
either_first b t true z e a h = subst (λ c. HasSame (c ∷ t)) (sym (eqb-true b 48 z)) (zero_first t ∙ h)
either_first b t false z e a h = other_first b t e a z

pub same_values : (t : List ℕ) → list_all is_digit t ≡ true → HasSame t
same_values [] e = refl
same_values (b ∷ t) e =
    let w = both_true (is_digit b) (list_all is_digit t) e in
    either_first b t (is_zero b) refl w.0 w.1 (same_values t w.1)

pub short_by_value : (t : List ℕ) → is_match core_decimal_pattern t ≡ true
    → is_short t ≡ (digits_from 8 0 (unsigned t) == digits_from 10 0 (unsigned t))
short_by_value t e = by_sign short_test short_no_sign t ∙ same_values (unsigned t) (decimal_digits t e)
