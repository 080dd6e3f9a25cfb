-- The forms of a text agree exactly if its values in both schemas are the same.
use Rattle.std.proofs.Common.{◌≡◌, ℕ, Bool, true, false, true≢false, eq-eqb, List, [], ◌∷◌, refl, sym, ap, subst, ◌∙◌}
use Rattle.std.specs.Prelude.{not, ◌&&◌, ◌==◌, if◌then◌else◌}
use Rattle.std.proofs.lemmas.Bool.{eqb-true}
use Rattle.yf_lines.specs.CoreSchema.{byte_of, repeated, followed, is_hexadecimal, is_octal}
use Rattle.yf_types.specs.Agreement.{agree}
use Rattle.yf_types.specs.NewerSchema.{core_decimal_pattern, core_hexadecimal_pattern}
use Rattle.yf_types.specs.NewerSchema.{core_octal_pattern, newer_form}
use Rattle.yf_types.specs.NewerSchema.{newer_patterns}
use Rattle.yf_types.specs.OlderSchema.{older_form, or_underscore}
use Rattle.yf_types.specs.Tests.{after_match, is_end, is_match}
use Rattle.yf_types.specs.Values.{is_ambiguous, is_negative, is_same, newer}
use Rattle.yf_types.specs.Values.{older, same, size, value}
use Rattle.yf_types.specs.declared.form.Form.{Form}
use Rattle.yf_types.specs.declared.form.Form.TheVariants.{Null, True, False, Binary, Octal, PrefixedOctal, Decimal}
use Rattle.yf_types.specs.declared.form.Form.TheVariants.{Hexadecimal, Sixties, Number, SixtiesNumber, Infinity}
use Rattle.yf_types.specs.declared.form.Form.TheVariants.{NotANumber, Text}
use Rattle.yf_types.proofs.FormLemmas.{first_has, decimal_forms, is_no_decimal, is_no_number, number_forms}
use Rattle.yf_types.proofs.MatchLemmas.{both_true}
use Rattle.yf_types.proofs.ShortNumbers.{short_by_value}

same_sign : (a : Bool) → is_same a a ≡ true
same_sign true = refl
same_sign false = refl

same_number : (n : ℕ) → (n == n) ≡ true
same_number n = eq-eqb n n refl

and_true : (p : Bool) → (p && true) ≡ p
and_true true = refl
and_true false = refl

-- The form in YAML 1.1, for each form in the core schema.

abbrev Agrees : Form → Form → List ℕ → Type 0
Agrees o n t = agree o n t ≡ same (value o t) (value n t)

with_null : (o : Form) (t : List ℕ) → Agrees o Null t
with_null Null t = refl
with_null _ t = refl

with_true : (o : Form) (t : List ℕ) → Agrees o True t
with_true True t = refl
with_true _ t = refl

with_false : (o : Form) (t : List ℕ) → Agrees o False t
with_false False t = refl
with_false _ t = refl

with_not_a_number : (o : Form) (t : List ℕ) → Agrees o NotANumber t
with_not_a_number NotANumber t = refl
with_not_a_number _ t = refl

with_text : (o : Form) (t : List ℕ) → Agrees o Text t
with_text Text t = refl
with_text _ t = refl

with_infinity : (o : Form) (t : List ℕ) → Agrees o Infinity t
with_infinity Infinity t = sym (same_sign (is_negative t))
with_infinity _ t = refl

with_decimal : (o : Form) (t : List ℕ) → is_match core_decimal_pattern t ≡ true → is_no_decimal o ≡ false
    → Agrees o Decimal t
with_decimal Octal t e f =
    short_by_value t e ∙ sym (rw (same_sign (is_negative t)) (and_true (size Octal t == size Decimal t)))
with_decimal Decimal t e f = sym (rw (same_number (size Decimal t), same_sign (is_negative t)) refl)
with_decimal Binary t e f = absurd (true≢false f)
with_decimal PrefixedOctal t e f = absurd (true≢false f)
with_decimal Hexadecimal t e f = absurd (true≢false f)
with_decimal Sixties t e f = absurd (true≢false f)
with_decimal _ t e f = refl

with_number : (o : Form) (t : List ℕ) → is_no_number o ≡ false → Agrees o Number t
with_number Number t f = sym (rw (same_number, same_sign) refl)
with_number SixtiesNumber t f = absurd (true≢false f)
with_number _ t f = refl

-- `0o` and `0x`

with_octal : (t : List ℕ) → is_match core_octal_pattern t ≡ true → Agrees (older_form t) PrefixedOctal t
with_octal [] e = absurd (true≢false (sym e))
with_octal (b ∷ []) e = absurd (true≢false (sym (both_true (b == 48) false e).1))
with_octal (b ∷ c ∷ t) e =
    let k = after_match (followed (byte_of is_octal) (repeated (byte_of is_octal))) is_end in
    let w = both_true (b == 48) ((c == 111) && k t) e in
    let x = both_true (c == 111) (k t) w.1 in
    subst (λ d. Agrees (older_form (d ∷ c ∷ t)) PrefixedOctal (d ∷ c ∷ t)) (sym (eqb-true b 48 w.0))
    (subst (λ d. Agrees (older_form (48 ∷ d ∷ t)) PrefixedOctal (48 ∷ d ∷ t)) (sym (eqb-true c 111 x.0)) refl)

after_x : (t : List ℕ) → Agrees (older_form (48 ∷ 120 ∷ t)) Hexadecimal (48 ∷ 120 ∷ t)
after_x t =
    by
    (after_match
    (followed (byte_of (or_underscore is_hexadecimal))
    (repeated (byte_of (or_underscore is_hexadecimal)))) is_end t) where
      by : (v : Bool) → Agrees (if v then Hexadecimal else Text) Hexadecimal (48 ∷ 120 ∷ t)
      by true = sym (rw (same_number (size Hexadecimal (48 ∷ 120 ∷ t))) refl)
      by false = refl

with_hexadecimal : (t : List ℕ) → is_match core_hexadecimal_pattern t ≡ true → Agrees (older_form t) Hexadecimal t
with_hexadecimal [] e = absurd (true≢false (sym e))
with_hexadecimal (b ∷ []) e = absurd (true≢false (sym (both_true (b == 48) false e).1))
with_hexadecimal (b ∷ c ∷ t) e =
    let k = after_match (followed (byte_of is_hexadecimal) (repeated (byte_of is_hexadecimal))) is_end in
    let w = both_true (b == 48) ((c == 120) && k t) e in
    let x = both_true (c == 120) (k t) w.1 in
    subst (λ d. Agrees (older_form (d ∷ c ∷ t)) Hexadecimal (d ∷ c ∷ t)) (sym (eqb-true b 48 w.0))
    (subst (λ d. Agrees (older_form (48 ∷ d ∷ t)) Hexadecimal (48 ∷ d ∷ t)) (sym (eqb-true c 120 x.0)) (after_x t))

-- The cases of the core schema.

pub forms_agree : (t : List ℕ) → agree (older_form t) (newer_form t) t ≡ same (older t) (newer t)
forms_agree t =
    let o = older_form t in
    first_has (λ n. Agrees o n t) newer_patterns t (
      (λ e. with_null o t),
      (
        (λ e. with_true o t),
        (
          (λ e. with_false o t),
          (
            (λ e. with_decimal o t e (decimal_forms t e)),
            (
              (λ e. with_octal t e),
              (
                (λ e. with_hexadecimal t e),
                (
                  (λ e. with_number o t (number_forms t e)),
                  ((λ e. with_infinity o t), ((λ e. with_not_a_number o t), with_text o t)),
                ),
              ),
            ),
          ),
        ),
      ),
    )

pub ambiguous_by : (t u : List ℕ) (o n : Form) (a : Bool) → u ≡ t → o ≡ older_form u → n ≡ newer_form u
    → a ≡ agree o n u
    → not a ≡ is_ambiguous t
ambiguous_by t u o n a e p q r =
    ap not (
    r ∙ ap (λ x. agree x n u) p ∙ ap (λ x. agree (older_form u) x u) q ∙ forms_agree u
    ∙ ap (λ x. same (older x) (newer x)) e)
