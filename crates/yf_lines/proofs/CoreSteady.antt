-- Each null, boolean or number of the core schema is steady.
use Rattle.std.proofs.Common.{◌≡◌, ◌⊎◌, inl, inr, ℕ, zero, suc, Bool, true, false, true≢false, ne_eqb, arith, List, [], ◌∷◌, ◌++◌, refl, sym, ap, ◌∙◌}
use Rattle.std.specs.Prelude.{◌&&◌, ◌||◌, ◌==◌, ◌-◌, not, length, slice_index}
use Rattle.std.specs.List.{list_all, list_any}
use Rattle.std.proofs.lemmas.List.Folds.{list_all-append, list_any-append}
use Rattle.yf_lines.specs.CoreSchema.{Pattern, byte_of, bytes, followed, either, optional, repeated, Matches, in_class, as_written, in_order, the_one, the_other, left_out, given, no_time, once_more, is_digit, is_octal, is_hexadecimal, is_sign, is_exponent, digits, signed, null_pattern, boolean_pattern, integer_pattern, float_pattern, mantissa, exponent, CoreTextsAreSteady}
use Rattle.yf_lines.specs.Steady.{is_steady, is_only, is_marker_of, has_line_feed, ends_with_colon}
use Rattle.yf_chars.proofs.Tests.{turned_false}

-- a byte that may be anywhere in a steady text, because it is not a line feed, colon, space or tab
abbrev is_calm : ℕ → Bool
is_calm b = not (b == 10) && (not (b == 58) && (not (b == 32) && not (b == 9)))

-- a byte that none of `-`, `?`, `---` and `...` has
abbrev is_other : ℕ → Bool
is_other b = not (b == 45) && (not (b == 46) && not (b == 63))

-- The parts of a pattern give facts about all bytes of a match, and about one of them.

abbrev AllAre : (ℕ → Bool) → Pattern → Type 0
AllAre c (byte_of p) = (b : ℕ) → p b ≡ true → c b ≡ true
AllAre c (bytes w) = list_all c w ≡ true
AllAre c (followed p q) = AllAre c p × AllAre c q
AllAre c (either p q) = AllAre c p × AllAre c q
AllAre c (optional p) = AllAre c p
AllAre c (repeated p) = AllAre c p

both_all : (c : ℕ → Bool) (x y : List ℕ) → list_all c x ≡ true → list_all c y ≡ true → list_all c (x ++ y) ≡ true
both_all c x y a b = list_all-append c x y ∙ rw (a, b) refl

all_are : (c : ℕ → Bool) {p : Pattern} {x : List ℕ} → Matches p x → AllAre c p → list_all c x ≡ true
all_are c (in_class {b = b} e) w = rw (w b e) refl
all_are c as_written w = w
all_are c (in_order {x = x} {y = y} m n) w = both_all c x y (all_are c m w.0) (all_are c n w.1)
all_are c (the_one m) w = all_are c m w.0
all_are c (the_other m) w = all_are c m w.1
all_are c left_out w = refl
all_are c (given m) w = all_are c m w
all_are c no_time w = refl
all_are c (once_more {x = x} {y = y} m n) w = both_all c x y (all_are c m w) (all_are c n w)

abbrev OneIs : (ℕ → Bool) → Pattern → Type 0
OneIs c (byte_of p) = (b : ℕ) → p b ≡ true → c b ≡ true
OneIs c (bytes w) = list_any c w ≡ true
OneIs c (followed p q) = OneIs c p ⊎ OneIs c q
OneIs c (either p q) = OneIs c p × OneIs c q
OneIs c (optional p) = ⊥
OneIs c (repeated p) = ⊥

pub either_way : (a b : Bool) → (a ≡ true) ⊎ (b ≡ true) → (a || b) ≡ true
either_way true b e = refl
either_way false b (inl e) = absurd cc
either_way false b (inr e) = e

either_any : (c : ℕ → Bool) (x y : List ℕ) → (list_any c x ≡ true) ⊎ (list_any c y ≡ true) → list_any c (x ++ y) ≡ true
either_any c x y e = list_any-append c x y ∙ either_way (list_any c x) (list_any c y) e

one_is : (c : ℕ → Bool) {p : Pattern} {x : List ℕ} → Matches p x → OneIs c p → list_any c x ≡ true
one_is c (in_class {b = b} e) w = rw (w b e) refl
one_is c as_written w = w
one_is c (in_order {x = x} {y = y} m n) (inl w) = either_any c x y (inl (one_is c m w))
one_is c (in_order {x = x} {y = y} m n) (inr w) = either_any c x y (inr (one_is c n w))
one_is c (the_one m) w = one_is c m w.0
one_is c (the_other m) w = one_is c m w.1
one_is c left_out w = absurd w
one_is c (given m) w = absurd w
one_is c no_time w = absurd w
one_is c (once_more m n) w = absurd w

-- Classes of the core schema.

-- a byte of a class is not one that the class leaves out
outside : (p : ℕ → Bool) (k : ℕ) → p k ≡ false → (b : ℕ) → p b ≡ true → (b == k) ≡ false
outside p k e b f = ne_eqb b k (λ g. true≢false (sym f ∙ (ap p g ∙ e)))

are_calm : (p : ℕ → Bool) → p 10 ≡ false → p 58 ≡ false → p 32 ≡ false → p 9 ≡ false → (b : ℕ) → p b ≡ true → is_calm b ≡ true
are_calm p a c d e b f = rw (outside p 10 a b f, outside p 58 c b f, outside p 32 d b f, outside p 9 e b f) refl

digit_calm : (b : ℕ) → is_digit b ≡ true → is_calm b ≡ true
digit_calm = are_calm is_digit refl refl refl refl

sign_calm : (b : ℕ) → is_sign b ≡ true → is_calm b ≡ true
sign_calm = are_calm is_sign refl refl refl refl

digit_other : (b : ℕ) → is_digit b ≡ true → is_other b ≡ true
digit_other b f = rw (outside is_digit 45 refl b f, outside is_digit 46 refl b f, outside is_digit 63 refl b f) refl

-- Patterns of the core schema.

signed_calm : AllAre is_calm (signed digits)
signed_calm = (sign_calm, (digit_calm, digit_calm))

null_calm : AllAre is_calm null_pattern
null_calm = ((refl, (refl, refl)), (refl, refl))

boolean_calm : AllAre is_calm boolean_pattern
boolean_calm = ((refl, (refl, refl)), (refl, (refl, refl)))

integer_calm : AllAre is_calm integer_pattern
integer_calm =
    let octal : (b : ℕ) → is_octal b ≡ true → is_calm b ≡ true = are_calm is_octal refl refl refl refl in
    let hexadecimal : (b : ℕ) → is_hexadecimal b ≡ true → is_calm b ≡ true = are_calm is_hexadecimal refl refl refl refl in
    (signed_calm, ((refl, (octal, octal)), (refl, (hexadecimal, hexadecimal))))

float_calm : AllAre is_calm float_pattern
float_calm =
    let mantissas : AllAre is_calm mantissa = ((refl, (digit_calm, digit_calm)), ((digit_calm, digit_calm), (refl, digit_calm))) in
    let exponents : AllAre is_calm exponent = (are_calm is_exponent refl refl refl refl, signed_calm) in
    ((sign_calm, (mantissas, exponents)), ((sign_calm, (refl, (refl, refl))), (refl, (refl, refl))))

boolean_other : OneIs is_other boolean_pattern
boolean_other = ((refl, (refl, refl)), (refl, (refl, refl)))

integer_other : OneIs is_other integer_pattern
integer_other = (inr (inl digit_other), (inl refl, inl refl))

float_other : OneIs is_other float_pattern
float_other = (inr (inl (inr (inl digit_other), inl (inl digit_other))), (inr (refl, (refl, refl)), (refl, (refl, refl))))

-- Steady texts.

pub both_parts : (p q : Bool) → (p && q) ≡ true → (p ≡ true) × (q ≡ true)
both_parts true q e = (refl, e)
both_parts false q e = absurd cc

-- the bytes that a calm byte is not
record IsCalm (b : ℕ) : Type 0 where
  feed : (b == 10) ≡ false
  colon : (b == 58) ≡ false
  space : (b == 32) ≡ false
  tab : (b == 9) ≡ false

calm : (b : ℕ) → is_calm b ≡ true → IsCalm b
calm b e =
    let one = both_parts (not (b == 10)) (not (b == 58) && (not (b == 32) && not (b == 9))) e in
    let two = both_parts (not (b == 58)) (not (b == 32) && not (b == 9)) one.1 in
    let three = both_parts (not (b == 32)) (not (b == 9)) two.1 in
    record { feed = turned_false (b == 10) one.0; colon = turned_false (b == 58) two.0; space = turned_false (b == 32) three.0; tab = turned_false (b == 9) three.1 }

-- the bytes that the other byte is not
record IsOther (b : ℕ) : Type 0 where
  dash : (b == 45) ≡ false
  point : (b == 46) ≡ false
  question : (b == 63) ≡ false

other : (b : ℕ) → is_other b ≡ true → IsOther b
other b e =
    let one = both_parts (not (b == 45)) (not (b == 46) && not (b == 63)) e in
    let two = both_parts (not (b == 46)) (not (b == 63)) one.1 in
    record { dash = turned_false (b == 45) one.0; point = turned_false (b == 46) two.0; question = turned_false (b == 63) two.1 }

no_feed : (x : List ℕ) → list_all is_calm x ≡ true → list_any (λ b. b == 10) x ≡ false
no_feed [] a = refl
no_feed (b ∷ x) a = let parts = both_parts (is_calm b) (list_all is_calm x) a in rw ((calm b parts.0).feed, no_feed x parts.1) refl

-- past the end, too
calm_at : (x : List ℕ) (i : ℕ) → list_all is_calm x ≡ true → is_calm (slice_index x i) ≡ true
calm_at [] i a = refl
calm_at (b ∷ x) zero a = (both_parts (is_calm b) (list_all is_calm x) a).0
calm_at (b ∷ x) (suc i) a = calm_at x i (both_parts (is_calm b) (list_all is_calm x) a).1

second_off : (p r s : Bool) → (p && false && r && s) ≡ false
second_off true r s = refl
second_off false r s = refl

third_off : (p q s : Bool) → (p && q && false && s) ≡ false
third_off true true s = refl
third_off true false s = refl
third_off false q s = refl

end_off : (p q r : Bool) → (p && q && r && (false || false || false)) ≡ false
end_off true true true = refl
end_off true true false = refl
end_off true false r = refl
end_off false q r = refl

-- a text with a byte other than k is not just k

module _ (k : ℕ) (differs : (b : ℕ) → is_other b ≡ true → (b == k) ≡ false) where
  not_only : (x : List ℕ) → list_any is_other x ≡ true → is_only k x ≡ false
  unfolding is_only
  not_only [] e = refl
  not_only (b ∷ []) e = by (is_other b) refl where
    by : (p : Bool) → is_other b ≡ p → is_only k (b ∷ []) ≡ false
    by true f = differs b f
    by false f = absurd (true≢false (sym e ∙ rw f refl))
  not_only (b ∷ c ∷ x) e = rw (ne_eqb (length (b ∷ c ∷ x)) 1 (λ f. omega (arith, f))) refl

  -- nor, if it is calm, three times k before white space or the end
  not_marker : (x : List ℕ) → (0 == k) ≡ false → list_all is_calm x ≡ true → list_any is_other x ≡ true → is_marker_of k x ≡ false
  unfolding is_marker_of
  not_marker [] z a e = rw z refl
  not_marker (b ∷ []) z a e = rw z (second_off (b == k) false false)
  not_marker (b ∷ c ∷ []) z a e = rw z (third_off (b == k) (c == k) false)
  not_marker (b ∷ c ∷ d ∷ []) z a e = by (is_other b) (is_other c) (is_other d) refl refl refl where
    by : (p q r : Bool) → is_other b ≡ p → is_other c ≡ q → is_other d ≡ r → ((b == k) && (c == k) && (d == k) && true) ≡ false
    by true q r f g h = rw (differs b f) refl
    by false true r f g h = rw (differs c g) (second_off (b == k) (d == k) true)
    by false false true f g h = rw (differs d h) (third_off (b == k) (c == k) true)
    by false false false f g h = absurd (true≢false (sym e ∙ rw (f, g, h) refl))
  not_marker (b ∷ c ∷ d ∷ f ∷ x) z a e =
      let fourth = calm f (calm_at (b ∷ c ∷ d ∷ f ∷ x) 3 a) in
      rw (ne_eqb (length (b ∷ c ∷ d ∷ f ∷ x)) 3 (λ g. omega (arith, g)), fourth.space, fourth.tab) (end_off (b == k) (c == k) (d == k))

steady : (x : List ℕ) → list_all is_calm x ≡ true → list_any is_other x ≡ true → is_steady x ≡ true
unfolding is_steady has_line_feed ends_with_colon
steady x a e =
    rw (
      no_feed x a,
      (calm (slice_index x (length x - 1)) (calm_at x (length x - 1) a)).colon,
      not_only 45 (λ b f. (other b f).dash) x e,
      not_only 63 (λ b f. (other b f).question) x e,
      not_marker 45 (λ b f. (other b f).dash) x refl a e,
      not_marker 46 (λ b f. (other b f).point) x refl a e,
    ) refl

-- The law.

pub nothing_steady : is_steady [] ≡ true
unfolding is_steady has_line_feed ends_with_colon is_only is_marker_of
nothing_steady = refl

pub core_is_steady : CoreTextsAreSteady
core_is_steady x (the_one (the_one m)) = steady x (all_are is_calm m null_calm.0) (one_is is_other m (refl, (refl, refl)))
core_is_steady x (the_one (the_other (the_one m))) = steady x (all_are is_calm m null_calm.1.0) (one_is is_other m refl)
core_is_steady x (the_one (the_other (the_other as_written))) = nothing_steady
core_is_steady x (the_other (the_one m)) = steady x (all_are is_calm m boolean_calm) (one_is is_other m boolean_other)
core_is_steady x (the_other (the_other (the_one m))) = steady x (all_are is_calm m integer_calm) (one_is is_other m integer_other)
core_is_steady x (the_other (the_other (the_other m))) = steady x (all_are is_calm m float_calm) (one_is is_other m float_other)
