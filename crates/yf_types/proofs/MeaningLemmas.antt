-- What texts of a form mean.
use Rattle.std.proofs.Common.{◌≡◌, ℕ, ◌*◌, ◌^◌, Bool, List, [], refl, sym, subst, ap, ◌∙◌}
use Rattle.std.specs.Prelude.{if◌then◌else◌}
use Rattle.yf_lines.specs.CoreSchema.{is_exponent}
use Rattle.yf_types.specs.Meanings.{Means}
use Rattle.yf_types.specs.OlderSchema.{is_point}
use Rattle.yf_types.specs.Values.{Value, after, before, digit_count, digits_from, fraction, infinity, is_negative}
use Rattle.yf_types.specs.Values.{number}
use Rattle.yf_types.specs.Values.{sixties_from, unsigned, value}
use Rattle.yf_types.specs.declared.form.Form.{Form}
use Rattle.yf_types.specs.declared.form.Form.TheVariants.{Number, SixtiesNumber, Infinity}
use Rattle.yf_types.specs.declared.meaning.Meaning.{Meaning}

abbrev IsNumber : Value → Type 0
IsNumber v = (x : Bool) × (m : ℕ) × (n : ℕ) × (v ≡ number x m n)

is_fraction : (negative : Bool) (whole : ℕ) (places power : List ℕ) → IsNumber (fraction negative whole places power)
is_fraction negative whole places power =
    let e = digits_from 10 0 (unsigned power) in (
      negative,
      digits_from 10 whole places * 10 ^ (if is_negative power then 0 else e),
      10 ^ digit_count places * 10 ^ (if is_negative power then e else 0),
      refl,
    )

pub number_is : (form : Form) (t : List ℕ) → form ≡ Number → IsNumber (value form t)
number_is form t e =
    let m = before is_exponent (unsigned t) in
    subst (λ f. IsNumber (value f t)) (sym e)
    (is_fraction (is_negative t) (digits_from 10 0 (before is_point m)) (after is_point m)
    (after is_exponent (unsigned t)))

pub sixties_is : (form : Form) (t : List ℕ) → form ≡ SixtiesNumber → IsNumber (value form t)
sixties_is form t e =
    subst (λ f. IsNumber (value f t)) (sym e)
    (is_fraction (is_negative t) (sixties_from 0 0 (before is_point (unsigned t))) (after is_point (unsigned t)) [])

pub infinity_is : (form : Form) (t : List ℕ) → form ≡ Infinity → (x : Bool) × (value form t ≡ infinity x)
infinity_is form t e = subst (λ f. (x : Bool) × (value f t ≡ infinity x)) (sym e) (is_negative t, refl)

pub told : (t u : List ℕ) (f : List ℕ → Form) (x : Form) (m : Meaning) → u ≡ t → x ≡ f u → Means m (value x u)
    → Means m (value (f t) t)
told t u f x m e q w = subst (λ v. Means m v) (ap (λ y. value y u) q ∙ ap (λ s. value (f s) s) e) w
