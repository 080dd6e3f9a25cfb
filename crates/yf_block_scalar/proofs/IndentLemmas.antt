-- From the first line that doesn't hold only spaces to the indentation of the content.
use Rattle.std.proofs.Common.{◌≡◌, ℕ, ℤ, ◌<◌, List, length, sym, ◌∙◌, subst, arith}
use Rattle.yf_chars.specs.Chain.{Chain}
use Rattle.yf_block_scalar.specs.Body.{EmptyLines, largest, Shallow}
use Rattle.yf_block_scalar.specs.Indentation.{IndentOfLine, IndentOfLines}
use Rattle.yf_block_scalar.specs.declared.indent.Indentation.{Indentation}
use Rattle.yf_block_scalar.specs.declared.indent.Indentation.TheVariants.{Found, Missing, TooLong}
use Rattle.yf_block_scalar.proofs.BodyLemmas.{too_long_detected, too_long_shallow}

pub find_from_judge : {t : List ℕ} (n : ℤ) {i h count longest : ℕ} (ms : List ℕ) → Chain (EmptyLines t) i h ms → length ms ≡ count → largest ms ≡ longest
    → (r : Indentation) → IndentOfLine t n h count longest r → IndentOfLines t n i r
find_from_judge n {h = h} ms c l g (Found k) j = record { at = h; widths = ms; before = c; within = omega (arith, j.1); first = j.0 }
find_from_judge {t} n {i} {h} ms c l g (Missing d p) j =
    let there : Chain (EmptyLines t) i p ms = subst (λ w. Chain (EmptyLines t) i w ms) (sym j.2) c in
    let shallow : Shallow t n p = subst (λ w. Shallow t n w) (sym j.2) j.0 in
    (ms, (there, shallow, l ∙ sym j.1))
find_from_judge n ms c l g TooLong j =
    let long : j.0 < largest ms = omega (arith, j.1.1) in
    (λ k d. too_long_detected c j.1.0 long k d, λ p ds e s. too_long_shallow c j.1.0 p ds e s)
