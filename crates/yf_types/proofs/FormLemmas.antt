-- Which forms a text can have in YAML 1.1, if the core schema reads it as a number.
use Rattle.std.proofs.Common.{◌≡◌, ℕ, Bool, true, false, true≢false, inl, inr, List, [], ◌∷◌, refl}
use Rattle.std.specs.Prelude.{not, ◌==◌, if◌then◌else◌}
use Rattle.yf_lines.specs.CoreSchema.{Pattern, is_digit, is_exponent, is_sign}
use Rattle.yf_types.specs.NewerSchema.{core_decimal_pattern, core_number_pattern}
use Rattle.yf_types.specs.OlderSchema.{binary_pattern, first_form, hexadecimal_pattern, is_colon, is_letter_b}
use Rattle.yf_types.specs.OlderSchema.{is_letter_x, older_form, older_patterns, sixties_number_pattern, sixties_pattern}
use Rattle.yf_types.specs.Tests.{is_match}
use Rattle.yf_types.specs.declared.form.Form.{Form}
use Rattle.yf_types.specs.declared.form.Form.TheVariants.{Binary, PrefixedOctal, Hexadecimal, Sixties, SixtiesNumber}
use Rattle.yf_types.specs.declared.form.Form.TheVariants.{Text}
use Rattle.yf_types.proofs.MatchLemmas.{no_match}
use Rattle.yf_types.proofs.ShortNumbers.{outside}

-- a property of the form that the patterns give, if each form has it whose pattern the text matches

abbrev pub Each : (Form → Type 0) → List (Pattern × Form) → List ℕ → Type 0
Each P [] t = P Text
Each P (x ∷ rest) t = (is_match x.0 t ≡ true → P x.1) × Each P rest t

pub first_has : (P : Form → Type 0) (patterns : List (Pattern × Form)) (t : List ℕ) → Each P patterns t
    → P (first_form patterns t)
first_has P [] t w = w
first_has P (x ∷ rest) t w = by (is_match x.0 t) w.0 (first_has P rest t w.1) where
  by : (b : Bool) → (b ≡ true → P x.1) → P (first_form rest t) → P (if b then x.1 else first_form rest t)
  by true f g = f refl
  by false f g = g

-- a form that the patterns do not give, if the text does not match the patterns of such forms

abbrev Also : Bool → Type 0 → Type 0 → Type 0
Also true A B = A × B
Also false A B = B

abbrev NoMatches : (Form → Bool) → List (Pattern × Form) → List ℕ → Type 0
NoMatches bad [] t = Unit {0}
NoMatches bad (x ∷ rest) t = Also (bad x.1) (is_match x.0 t ≡ false) (NoMatches bad rest t)

step : (bad : Form → Bool) (b m : Bool) (f r : Form) (A : Type 0) → bad f ≡ b → Also b (m ≡ false) A
    → (A → bad r ≡ false)
    → bad (if m then f else r) ≡ false
step bad true true f r A e w h = absurd (true≢false w.0)
step bad true false f r A e w h = h w.1
step bad false true f r A e w h = e
step bad false false f r A e w h = h w

first_other : (bad : Form → Bool) (patterns : List (Pattern × Form)) (t : List ℕ) → bad Text ≡ false
    → NoMatches bad patterns t → bad (first_form patterns t) ≡ false
first_other bad [] t o w = o
first_other bad (x ∷ rest) t o w =
    step bad (bad x.1) (is_match x.0 t) x.1 (first_form rest t) (NoMatches bad rest t) refl w (first_other bad rest t o)

-- all bytes of a class are others

other : (p : ℕ → Bool) (k : ℕ) → p k ≡ false → (b : ℕ) → p b ≡ true → not (b == k) ≡ true
other p k e b f = rw (outside p k e b f) refl

-- forms that no decimal integer has

abbrev pub is_no_decimal : Form → Bool
is_no_decimal Binary = true
is_no_decimal PrefixedOctal = true
is_no_decimal Hexadecimal = true
is_no_decimal Sixties = true
is_no_decimal _ = false

pub decimal_forms : (t : List ℕ) → is_match core_decimal_pattern t ≡ true → is_no_decimal (older_form t) ≡ false
decimal_forms t e =
    let binary = no_match is_letter_b core_decimal_pattern binary_pattern t
    (other is_sign 98 refl, (other is_digit 98 refl, other is_digit 98 refl)) (inr (inr (inl (λ b f. f)))) e in
    let hexadecimal = no_match is_letter_x core_decimal_pattern hexadecimal_pattern t
    (other is_sign 120 refl, (other is_digit 120 refl, other is_digit 120 refl)) (inr (inr (inl (λ b f. f)))) e in
    let sixties = no_match is_colon core_decimal_pattern sixties_pattern t
    (other is_sign 58 refl, (other is_digit 58 refl, other is_digit 58 refl))
    (inr (inr (inr (inl (inl (λ b f. f)))))) e in
    first_other is_no_decimal older_patterns t refl (binary, (hexadecimal, (sixties, tt)))

-- forms that no decimal floating point number has

abbrev pub is_no_number : Form → Bool
is_no_number SixtiesNumber = true
is_no_number _ = false

pub number_forms : (t : List ℕ) → is_match core_number_pattern t ≡ true → is_no_number (older_form t) ≡ false
number_forms t e =
    let d : (b : ℕ) → is_digit b ≡ true → not (b == 58) ≡ true = other is_digit 58 refl in
    let s : (b : ℕ) → is_sign b ≡ true → not (b == 58) ≡ true = other is_sign 58 refl in
    let sixties = no_match is_colon core_number_pattern sixties_number_pattern t
    (s, (((refl, (d, d)), ((d, d), (refl, d))), (other is_exponent 58 refl, (s, (d, d)))))
    (inr (inr (inr (inl (inl (inl (λ b f. f))))))) e in
    first_other is_no_number older_patterns t refl (sixties, tt)
