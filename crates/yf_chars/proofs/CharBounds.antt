-- Characters are below `no_char`, and a visible ASCII character doesn't break a line.
use Rattle.std.proofs.Common.{◌≡◌, ℕ, ◌<◌, ◌≤◌, true, arith}
use Rattle.std.proofs.lemmas.Bool.Decides.{nat_tests}
use Rattle.yf_chars.specs.Text.{no_char}
use Rattle.yf_chars.specs.Class.{is_between, is_break_char, is_nb_char, is_nb_json, is_printable}

pub nb_below : (c : ℕ) → is_nb_char c ≡ true → c < no_char
unfolding is_nb_char is_printable is_between
nb_below c e = grind (arith, nat_tests)

pub json_below : (c : ℕ) → is_nb_json c ≡ true → c < no_char
unfolding is_nb_json is_between
json_below c e = grind (arith, nat_tests)

pub visible_nb : (c : ℕ) → 32 ≤ c → c < 127 → is_nb_char c ≡ true
unfolding is_nb_char is_printable is_between is_break_char
visible_nb c l h = grind (arith, nat_tests)
