-- Boundaries of a prefix of a text are boundaries of the text.
use Rattle.std.proofs.Common.{◌≡◌, ℕ, ◌≤◌, ◌<◌, ◌⊎◌, inl, inr, List, ◌++◌, length, take, ◌-◌, arith, sym, ap, ◌∙◌, subst}
use Rattle.std.proofs.lemmas.Bool.{cases_lt}
use Rattle.std.proofs.lemmas.List.{get_or-take, length-take-le}
use Rattle.std.proofs.lemmas.List.Elements.{All-append, All-weaker}
use Rattle.std.specs.List.{All, slice_range}
use Rattle.std.specs.Str.{IsCharBoundary}

pub uncut_boundary : (t : List ℕ) (end i : ℕ) → IsCharBoundary t end → IsCharBoundary (take end t) i → IsCharBoundary t i
uncut_boundary t end i e b = go (cases_lt i end) where
  within : end ≤ length t
  within = e.0

  size : length (take end t) ≡ end
  size = length-take-le end t within

  low : i ≤ end
  low = let l = b.0 in omega (arith, l, size)

  go : (i < end) ⊎ (end ≤ i) → IsCharBoundary t i
  go (inl l) =
      let same = get_or-take end t i 0 l in
      (omega (arith, l, within), λ _ g. subst (λ (z : ℕ). 192 ≤ z) same (b.1 (omega (arith, l, size)) (subst (λ (z : ℕ). 128 ≤ z) (sym same) g)))
  go (inr h) = let eq : end ≡ i = omega (arith, h, low) in subst (λ (z : ℕ). IsCharBoundary t z) eq e

-- boundaries of the text up to the prefix's end are boundaries of the prefix
pub cut_boundary : (t : List ℕ) (end i : ℕ) → end ≤ length t → i ≤ end → IsCharBoundary t i → IsCharBoundary (take end t) i
cut_boundary t end i within l b =
    let size = length-take-le end t within in (
      omega (arith, l, size),
      λ k g.
          let below : i < end = omega (arith, k, size) in
          let same = get_or-take end t i 0 below in
          subst (λ (z : ℕ). 192 ≤ z) (sym same) (b.1 (omega (arith, below, within)) (subst (λ (z : ℕ). 128 ≤ z) same g)),
    )

-- a prefix as a slice
pub prefix_of : (t : List ℕ) (end : ℕ) → slice_range t 0 end ≡ take end t
prefix_of t end = let same : end - 0 ≡ end = omega arith in ap (λ (z : ℕ). take z t) same

-- all of them, after others
pub uncut_boundaries : (t prefix : List ℕ) (end : ℕ) (xs ys zs : List ℕ) → IsCharBoundary t end → prefix ≡ slice_range t 0 end → zs ≡ xs ++ ys → All (IsCharBoundary t) xs
    → All (IsCharBoundary prefix) ys → All (IsCharBoundary t) zs
uncut_boundaries t prefix end xs ys zs b f e old new = subst (λ ws. All (IsCharBoundary t) ws) (sym e)
    (All-append (IsCharBoundary t) xs ys old
    (All-weaker (IsCharBoundary prefix) (IsCharBoundary t) (λ i r. uncut_boundary t end i b (subst (λ z. IsCharBoundary z i) (f ∙ prefix_of t end) r)) ys new))
