-- The result of std's reader of numbers on a text of digits.
use Rattle.std.proofs.Common.{◌≡◌, ◌<◌, ◌^◌, ℕ, true, false, List, [], ◌∷◌, Ok, Err, Result, refl, arith, length, rules}
use Rattle.std.proofs.Common.{subst}
use Rattle.std.proofs.Math.Bool.{and-false}
use Rattle.std.proofs.lemmas.Bool.Decides.{nat_tests}
use Rattle.std.proofs.lemmas.Str.Parse.{IsNumeralModel, numerals_by_value, parse_digits}
use Rattle.std.specs.Char.{is_ascii_digit}
use Rattle.std.specs.List.{list_all}
use Rattle.std.specs.Prelude.{nat_lt}
use Rattle.std.specs.Str.Parse.{ParsesUnsigned, digits_value}
use Rattle.yf_line_ranges.specs.Numbers.{is_number, number_of}

own : IsNumeralModel (λ ds. list_all is_ascii_digit ds ≡ true) (digits_value 10)
own = numerals_by_value _ (search rules)

-- A number that is read is the one that the digits write.
pub read : {E : Type 0} (r : Result ℕ E) (text : List ℕ) (n : ℕ) → ParsesUnsigned 64 10 text r → r ≡ Ok n
    → list_all is_ascii_digit text ≡ true → (is_number text ≡ true) × (n ≡ number_of text)
read {E = E} r text n h same digits =
    let parsed : ParsesUnsigned {E = E} 64 10 text (Ok n) =
    subst (λ (x : Result ℕ E). ParsesUnsigned {E = E} 64 10 text x) same h in
    let parts = parse_digits own {E = E} 64 text (Ok n) parsed digits in
    let some : nat_lt 0 (length text) ≡ true = grind (arith, nat_tests, parts.0.0) in
    let fits : nat_lt (number_of text) (2 ^ 64) ≡ true = grind (arith, nat_tests, parts.0.1) in
    (rw (digits, some, fits) refl, parts.1)

-- Digits that are not read are not a number: there are none, or they write a number that is too large.
pub unread : {E : Type 0} (r : Result ℕ E) (e : E) (text : List ℕ) → ParsesUnsigned 64 10 text r → r ≡ Err e
    → list_all is_ascii_digit text ≡ true → is_number text ≡ false
unread r e [] h same digits = refl
unread {E = E} r e (c ∷ cs) h same digits =
    let parsed : ParsesUnsigned {E = E} 64 10 (c ∷ cs) (Err e) =
    subst (λ (x : Result ℕ E). ParsesUnsigned {E = E} 64 10 (c ∷ cs) x) same h in
    let wrong = parse_digits own {E = E} 64 (c ∷ cs) (Err e) parsed digits in
    let large : ¬ (number_of (c ∷ cs) < 2 ^ 64) = λ fits. wrong (omega arith, fits) in
    let most : nat_lt (number_of (c ∷ cs)) (2 ^ 64) ≡ false = grind (arith, nat_tests, large) in
    rw (digits, most) (and-false (nat_lt 0 (length (c ∷ cs))))
