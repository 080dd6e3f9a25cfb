-- The marker of a forbidden line: its last sign gives its kind.
use Rattle.std.proofs.Common.{◌≡◌, ◌≢◌, ℕ, ◌+◌, Bool, true, false, List, refl, sym, ◌∙◌, arith, ⊎_elim, true≢false}
use Rattle.std.proofs.lemmas.Bool.{cases_eq, ne_eqb}
use Rattle.yf_chars.specs.Text.{code}
use Rattle.yf_lines.specs.Basic.{ForbiddenLine, is_three}
use Rattle.yf_lines.proofs.BasicLemmas.{no_marker, three_all, three_first, three_second}
use Rattle.yf_lines.proofs.MarkLemmas.{three_code}

module _ (t : List ℕ) (i : ℕ) where
  other_sign : (c : ℕ) → code t (i + 2) ≢ c → is_three t i c ≡ false
  other_sign c n = ⊎_elim
      (λ (a : code t i ≡ c). ⊎_elim
      (λ (b : code t (i + 1) ≡ c). three_all t i c a b ∙ ne_eqb (code t (i + 2)) c n)
      (λ (b : code t (i + 1) ≢ c). three_second t i c a b)
      (cases_eq (code t (i + 1)) c))
      (λ (a : code t i ≢ c). three_first t i c a)
      (cases_eq (code t i) c)

  pub no_sign : ForbiddenLine t i → code t (i + 2) ≢ 45 → code t (i + 2) ≢ 46 → ⊥
  no_sign f n m = true≢false (sym f.marker ∙ no_marker t i (other_sign 45 n) (other_sign 46 m))

  pub dash_sign : ForbiddenLine t i → code t (i + 2) ≡ 45 → code t i ≡ 45
  dash_sign f e = go (is_three t i 45) refl where
    go : (b : Bool) → is_three t i 45 ≡ b → code t i ≡ 45
    go true q = three_code t i 45 q
    go false q = absurd (true≢false (sym f.marker ∙ no_marker t i q (other_sign 46 (λ r. absurd (omega arith)))))

  pub dot_sign : ForbiddenLine t i → code t (i + 2) ≡ 46 → code t i ≡ 46
  dot_sign f e = go (is_three t i 46) refl where
    go : (b : Bool) → is_three t i 46 ≡ b → code t i ≡ 46
    go true q = three_code t i 46 q
    go false q = absurd (true≢false (sym f.marker ∙ no_marker t i (other_sign 45 (λ r. absurd (omega arith))) q))
