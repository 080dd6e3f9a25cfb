-- Comments as their index plus one.
use Rattle.std.proofs.Common.{◌≡◌, ◌∙◌, ◌+◌, ◌∷◌, ap, arith, map, refl, replicate, set, suc, zero, List, Option, None, Some, ℕ}
use Rattle.std.proofs.lemmas.List.{map-set}
use Rattle.yf_print.specs.Layouts.LeafTrails.{counted}

counted_next : (k : ℕ) → counted (k + 1) ≡ Some k
counted_next k = grind arith

-- a comment set at an index, in the list of numbers
pub noted : (xs : List ℕ) (ys : List (Option ℕ)) (i n row k : ℕ) → map counted xs ≡ ys → row ≡ n → n ≡ k + 1
    → map counted (set xs i row) ≡ set ys i (Some k)
noted xs ys i n row k s r h =
    map-set counted xs i row
    ∙ (ap (λ w. set (map counted xs) i (counted w)) (r ∙ h)
    ∙ (ap (set (map counted xs) i) (counted_next k) ∙ ap (λ w. set w i (Some k)) s))

-- a list of no comments, as numbers
pub none_counted : (n : ℕ) → map counted (replicate n 0) ≡ replicate n None
none_counted zero = refl
none_counted (suc n) = ap (λ w. None ∷ w) (none_counted n)
