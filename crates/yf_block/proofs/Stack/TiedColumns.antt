-- The columns at which a collection may begin on the line of an indicator.
use Rattle.std.proofs.Common.{◌≡◌, ◌≢◌, ℕ, ◌+◌, ◌-◌, ◌<◌, ◌≤◌, ℤ, pos, ◌+ℤ◌, Bool, true, false, List, Some, None, refl, sym, ap, ◌∙◌, subst, arith, ⊎_elim, true≢false}
use Rattle.std.proofs.lemmas.Bool.{cases_lt}
use Rattle.std.proofs.lemmas.Int.{ints}
use Rattle.yf_chars.specs.Text.{code}
use Rattle.yf_chars.specs.Class.{is_white}
use Rattle.yf_lines.specs.Basic.{Spaces}
use Rattle.yf_grammar.specs.BlockReader.BlockParser.{Compact, compact_columns, no_columns}
use Rattle.yf_block.specs.ColumnsTied.{same_columns}
use Rattle.yf_lines.proofs.BasicLemmas.{white_of_space}

-- only white space is between
spaces_reach : {t : List ℕ} {at place s : ℕ} → at ≤ place → at ≤ s → Spaces t at (s - at) → code t s ≢ 32 → Spaces t at (place - at) → is_white (code t place) ≡ false → s ≡ place
spaces_reach {t} {at} {place} {s} l k y f z w = ⊎_elim
    (λ (o : s < place).
    let here : at + (s - at) ≡ s = omega (arith, k) in
    absurd (f (ap (code t) (sym here) ∙ z.each (s - at) (omega (arith, k, o)))))
    (λ (o : place ≤ s). ⊎_elim
    (λ (b : place < s).
    let here : at + (place - at) ≡ place = omega (arith, l) in
    absurd (true≢false (sym (white_of_space (code t place) (ap (code t) (sym here) ∙ y.each (place - at) (omega (arith, l, b)))) ∙ w)))
    (λ (b : s ≤ place). omega (arith, o, b))
    (cases_lt place s))
    (cases_lt s place)

module _ {t : List ℕ} {at place least : ℕ} {n : ℤ} (e : pos least ≡ n +ℤ pos 1) (l : at ≤ place) where
  pub compact_there : {r : ℕ} → 0 < least → Spaces t at (place - at) → r ≡ least + (place - at) → Compact t true n at place (same_columns (Some r))
  compact_there {r} g s q =
      let m : n ≡ pos (least - 1) = omega (arith, ints, e, g) in
      let p : at + (place - at) ≡ place = omega arith in
      let v : (least - 1) + 1 + (place - at) ≡ r = omega (arith, g, q) in
      subst (λ z. Compact t true z at place (same_columns (Some r))) (sym m)
      (subst (λ (z : ℕ). Compact t true (pos (least - 1)) at z (same_columns (Some r))) p
      (subst (λ (z : ℕ). Compact t true (pos (least - 1)) at (at + (place - at)) (same_columns (Some z))) v (compact_columns s)))

  pub compact_not : {s : ℕ} {b : Bool} → at ≤ s → Spaces t at (s - at) → code t s ≢ 32 → is_white (code t place) ≡ false → s ≢ place → Compact t b n at place (same_columns None)
  compact_not k y f w d = no_columns (λ q z. d (spaces_reach l k y f z w))

-- no collection may begin on that line
pub compact_never : {t : List ℕ} {b : Bool} {n : ℤ} {at place : ℕ} → b ≡ false → Compact t b n at place (same_columns None)
compact_never e = no_columns (λ q. absurd (true≢false (sym q ∙ e)))

pub compact_yes : {t : List ℕ} {at place least s r : ℕ} {b : Bool} {n : ℤ} → pos least ≡ n +ℤ pos 1 → at ≤ place → b ≡ true → (b ≡ true → (0 < least) × (least ≤ at)) → s ≡ place → Spaces t at (s - at)
    → r ≡ least + (place - at) → Compact t b n at place (same_columns (Some r))
compact_yes {t} {at} {place} {least} {r = r} {b = b} {n = n} e l q g p y v =
    subst (λ z. Compact t z n at place (same_columns (Some r))) (sym q)
    (compact_there e l (g q).0 (subst (λ (z : ℕ). Spaces t at (z - at)) p y) v)
