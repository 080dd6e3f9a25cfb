-- Parts in base 60.
use Rattle.std.proofs.Common.{true≢false, ne_eqb, refl, sym, ap, ◌∙◌}
use Rattle.std.specs.Prelude.{◌≡◌, ℕ, Bool, true, false, List, [], ◌∷◌, Option, Some, None, ◌&&◌, if◌then◌else◌}
use Rattle.yf_lines.specs.CoreSchema.{is_digit}
use Rattle.yf_types.specs.OlderSchema.{is_colon, is_point, is_zero_to_five}
use Rattle.yf_types.specs.Tests.{after_byte}

-- the text after a colon and one or two digits, as many as one part may have
abbrev pub after_sixty : List ℕ → Option (List ℕ)
after_sixty [] = None
after_sixty (c ∷ []) = None
after_sixty (c ∷ d ∷ []) = if is_colon c && is_digit d then Some [] else None
after_sixty (c ∷ d ∷ e ∷ t) =
    if is_colon c then
    (if is_zero_to_five d && is_digit e then Some t else if is_digit d then Some (e ∷ t) else None) else None

-- no digit is a point
pub no_point : (k : List ℕ → Bool) (b : ℕ) (t : List ℕ) → is_digit b ≡ true → after_byte is_point k (b ∷ t) ≡ false
no_point k b t e = rw (ne_eqb b 46 (λ g. true≢false (sym e ∙ ap is_digit g))) refl
