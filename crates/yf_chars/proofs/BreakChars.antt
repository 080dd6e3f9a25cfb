-- Characters that are not breaks.
use Rattle.std.proofs.Common.{◌≡◌, ◌≢◌, ℕ, true, false, refl, ap, arith}
use Rattle.std.proofs.lemmas.Bool.{ne_eqb}
use Rattle.std.proofs.lemmas.Bool.Decides.{nat_tests}
use Rattle.yf_chars.specs.Class.{is_between, is_break_char, is_nb_char, is_printable}

pub no_break : (c : ℕ) → c ≢ 10 → c ≢ 13 → is_break_char c ≡ false
unfolding is_break_char
no_break c n m = rw (ne_eqb c 10 n, ne_eqb c 13 m) refl

pub space_no_break : (c : ℕ) → c ≡ 32 → is_break_char c ≡ false
unfolding is_break_char
space_no_break c e = ap is_break_char e

pub nb_no_break : (c : ℕ) → is_nb_char c ≡ true → is_break_char c ≡ false
unfolding is_nb_char is_printable is_between is_break_char
nb_no_break c e = grind (arith, nat_tests)
