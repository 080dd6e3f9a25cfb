-- The walk over the open collections, from the innermost one out.
use Rattle.std.proofs.Common.{◌≡◌, ℕ, ◌+◌, ◌-◌, ◌<◌, ◌≤◌, true, List, [], ◌∷◌, length, reverse, take, get_or, sym, ap, ◌∙◌, subst, arith}
use Rattle.std.proofs.lemmas.List.{reverse-append, take_more}
use Rattle.yf_block.specs.declared.frame.Frame.{Frame}
use Rattle.yf_block.specs.AwaitedColons.{AwaitsAt, awaits_here, awaits_round, AwaitsAlike}

-- the frame before an index is the first of those up to it
up_to_frame : (xs : List Frame) (k : ℕ) (d : Frame) → 0 < k → k ≤ length xs → reverse (take k xs) ≡ get_or xs (k - 1) d ∷ reverse (take (k - 1) xs)
up_to_frame xs k d n l =
    let e : k ≡ (k - 1) + 1 = omega arith in
    ap (λ z. reverse (take z xs)) e ∙ ap (λ z. reverse z) (take_more xs (k - 1) d (omega arith)) ∙ reverse-append (take (k - 1) xs) (get_or xs (k - 1) d ∷ [])

-- a less deep collection ends the walk; one at the column may await the `:`; otherwise those around it count
less_deep : {m : ℕ} {f : Frame} {fs : List Frame} → f.column < m → AwaitsAt m (f ∷ fs) → ⊥
less_deep l (awaits_here e a) = omega (arith, e, l)
less_deep l (awaits_round d a) = omega (arith, d, l)

not_here : {m : ℕ} {f : Frame} {fs : List Frame} → (f.column ≡ m → f.awaits_colon ≡ true → ⊥) → AwaitsAt m (f ∷ fs) → AwaitsAt m fs
not_here n (awaits_here e a) = absurd (n e a)
not_here n (awaits_round d a) = a

module _ {m k : ℕ} (xs : List Frame) (d : Frame) (a : AwaitsAlike m (reverse (take k xs)) (reverse xs)) (n : 0 < k) (l : k ≤ length xs) where
  pub walk_ends : (get_or xs (k - 1) d).column < m → AwaitsAt m (reverse xs) → ⊥
  walk_ends b z = less_deep b (subst (λ y. AwaitsAt m y) (up_to_frame xs k d n l) (a.back z))

  pub walk_finds : (get_or xs (k - 1) d).column ≡ m → (get_or xs (k - 1) d).awaits_colon ≡ true → AwaitsAt m (reverse xs)
  walk_finds e y = a.into (subst (λ y. AwaitsAt m y) (sym (up_to_frame xs k d n l)) (awaits_here e y))

  pub walk_goes_on : m ≤ (get_or xs (k - 1) d).column → ((get_or xs (k - 1) d).column ≡ m → (get_or xs (k - 1) d).awaits_colon ≡ true → ⊥)
      → AwaitsAlike m (reverse (take (k - 1) xs)) (reverse xs)
  walk_goes_on b y = record {
    into = λ z. a.into (subst (λ y. AwaitsAt m y) (sym (up_to_frame xs k d n l)) (awaits_round b z));
    back = λ z. not_here y (subst (λ y. AwaitsAt m y) (up_to_frame xs k d n l) (a.back z));
  }
