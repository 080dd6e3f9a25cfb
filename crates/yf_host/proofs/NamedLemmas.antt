-- A diff begins with `-`, and a line with a position begins with a digit.
use Rattle.std.proofs.Common.{◌≡◌, ◌<◌, ◌^◌, ◌++◌, ◌∷◌, [], ℕ, zero, suc, List, Bool, true, false, codes, decimal, get_or, refl, arith}
use Rattle.std.proofs.lemmas.Bool.{ne_eqb}
use Rattle.std.proofs.lemmas.Fmt.{decimal_digit, first_decimal}
use Rattle.std.specs.Prelude.{not, if◌then◌else◌}
use Rattle.yf_diff.specs.Diff.{AddsDiff}
use Rattle.yf_diff.specs.Script.{has_change}
use Rattle.yf_lines.specs.declared.place.Position.{Position}
use Rattle.yf_rules.specs.Runs.Compare.{difference_line}
use Rattle.yf_rules.specs.Runs.Diffed.{is_same}
use Rattle.yf_rules.specs.Runs.Run.{finding_line}
use Rattle.yf_rules.specs.declared.finding.Finding.{Finding}
use Rattle.yf_host.specs.Named.{is_diff}

digit_first : (digits rest : List ℕ) → 47 < get_or digits 0 0 → is_diff (digits ++ rest) ≡ false
digit_first [] rest first = absurd (omega arith)
digit_first (d ∷ digits) rest first = ne_eqb d 45 (λ same. omega arith)

digit_first_of_two : (digits more rest : List ℕ) → 47 < get_or digits 0 0 → is_diff ((digits ++ more) ++ rest) ≡ false
digit_first_of_two [] more rest first = absurd (omega arith)
digit_first_of_two (d ∷ digits) more rest first = ne_eqb d 45 (λ same. omega arith)

decimal_first : (n : ℕ) → n < 2 ^ 64 → 47 < get_or (decimal n) 0 0
decimal_first zero fits = rw (decimal_digit 0 (omega arith)) (omega arith)
decimal_first (suc n) fits =
    let digit : 48 < get_or (decimal (suc n)) 0 0 = first_decimal (suc n) (omega arith) fits in
    omega arith

pub finding_first : (output : List ℕ) (f : Finding) (rest : List ℕ) → f.place.line < 2 ^ 64
    → output ≡ finding_line f ++ rest → is_diff output ≡ false
finding_first output f rest fits same =
    rw same (digit_first_of_two (decimal f.place.line) _ rest (decimal_first f.place.line fits))

pub difference_first : (output : List ℕ) (place : Position) → place.line < 2 ^ 64 → output ≡ difference_line place
    → is_diff output ≡ false
difference_first output place fits same =
    rw same (digit_first (decimal place.line) _ (decimal_first place.line fits))

by_change : (changes : Bool) (rest : List ℕ)
    → is_diff (if changes then codes "--- " ++ rest else []) ≡ not (is_same (if changes then codes "--- " ++ rest else []))
by_change true rest = refl
by_change false rest = refl

-- a diff is empty or begins with `-`
pub diff_first : (old_name new_name t v diff : List ℕ) → AddsDiff old_name new_name t v [] diff
    → is_diff diff ≡ not (is_same diff)
diff_first old_name new_name t v diff d = rw d.written (by_change (has_change d.script) _)
