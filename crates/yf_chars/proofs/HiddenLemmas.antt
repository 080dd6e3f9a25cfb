-- No character below U+0085 is hidden.
use Rattle.std.proofs.Common.{◌≡◌, ℕ, ◌<◌, ◌≤◌, true, false, Bool, ◌&&◌, refl, arith}
use Rattle.std.specs.Prelude.{nat_lt}
use Rattle.std.proofs.lemmas.Bool.Decides.{nat_tests}
use Rattle.std.proofs.lemmas.Bool.{lt-ltb, le-ltb}
use Rattle.ucd_table.specs.Rows.{in_ranges}
use Rattle.ucd_derived.specs.Binary.{is_default_ignorable_code_point}
use Rattle.ucd_derived.specs.DefaultIgnorableCodePointRanges.{default_ignorable_code_point_ranges}
use Rattle.yf_chars.specs.Class.{is_between}
use Rattle.yf_chars.specs.Escape.{by_number, is_by_four, spelled}
use Rattle.yf_chars.specs.Hidden.{is_hidden, is_hidden_besides, is_no_break_space, is_other_break, is_private_use, is_spelled_out, spelled_out}

low_ignorable : (c : ℕ) → c < 133 → is_default_ignorable_code_point c ≡ false
unfolding is_default_ignorable_code_point default_ignorable_code_point_ranges in_ranges
low_ignorable c l = grind (arith, nat_tests)

low_besides : (c : ℕ) → c < 133 → is_hidden_besides c ≡ false
unfolding is_hidden_besides is_no_break_space is_other_break is_private_use is_between
low_besides c l = grind (arith, nat_tests)

pub low_shown : (c : ℕ) → c < 133 → is_hidden c ≡ false
unfolding is_hidden
low_shown c l = rw (low_ignorable c l, low_besides c l) refl

pub ignorable_hidden : (c : ℕ) → is_default_ignorable_code_point c ≡ true → is_hidden c ≡ true
unfolding is_hidden
ignorable_hidden c e = rw e refl

pub hidden_besides : (c : ℕ) → is_default_ignorable_code_point c ≡ false → is_hidden c ≡ is_hidden_besides c
unfolding is_hidden
hidden_besides c e = rw e refl

-- hidden characters that are written by their number
pub low_itself : (c : ℕ) → c ≤ 160 → is_spelled_out c ≡ false
unfolding is_spelled_out
low_itself c l = rw (le-ltb 160 c l) refl

pub four_itself : (c : ℕ) → is_by_four c ≡ true → is_spelled_out c ≡ false
unfolding is_spelled_out
four_itself c e = rw e (none (nat_lt 160 c)) where
  none : (b : Bool) → (b && false) ≡ false
  none true = refl
  none false = refl

pub out_hidden : (c : ℕ) → 160 < c → is_by_four c ≡ false → is_spelled_out c ≡ is_hidden c
unfolding is_spelled_out
out_hidden c l e = rw (lt-ltb 160 c l, e) refl

pub spelled_alike : (c : ℕ) → is_spelled_out c ≡ false → spelled_out c ≡ spelled c
unfolding spelled_out
spelled_alike c e = rw e refl

pub spelled_apart : (c : ℕ) → is_spelled_out c ≡ true → spelled_out c ≡ by_number c
unfolding spelled_out
spelled_apart c e = rw e refl
