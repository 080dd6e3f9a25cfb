-- The mask of a comparison with one byte, and the bytes that were compared.
use Rattle.std.proofs.Common.{◌≡◌, ℕ, suc, ◌+◌, ◌%◌, ◌^◌, ◌<◌, ◌≤◌, Bool, false, cond, ltb, List, [], ◌∷◌, length, map, get_or, replicate, refl, sym, ap, ◌∙◌, arith, w8}
use Rattle.std.proofs.lemmas.List.{length-map}
use Rattle.std.proofs.lemmas.Simd.{length-chunk, get_or-chunk, bitmask_splat, none_from_empty_mask, tops_compared, zip2_splat_left, mask_l-mod}
use lib.Lanes.{chunk, mask_l, zip2, top}

-- the mask, as the code makes it, with the byte after and with the byte first
abbrev pub mask_of : (ℕ → ℕ → Bool) → List ℕ → ℕ → ℕ → ℕ → ℕ
mask_of t d i n y = mask_l (map (top 7) (zip2 (λ a b. cond (t a b) 255 0) (chunk i n d) (replicate n y))) % 2 ^ 64

abbrev pub mask_above : List ℕ → ℕ → ℕ → ℕ → ℕ
mask_above d i n y = mask_l (map (top 7) (zip2 (λ a b. cond (ltb a b) 255 0) (replicate n y) (chunk i n d))) % 2 ^ 64

empty_mask : (p : ℕ → Bool) (xs : List ℕ) → ((k : ℕ) → k < length xs → p (get_or xs k 0) ≡ false) → mask_l (map p xs) ≡ 0
empty_mask p [] none = refl
empty_mask p (x ∷ xs) none = rw (none 0 (omega arith), empty_mask p xs (λ k l. none (suc k) (omega (arith, l)))) refl

empty_under : (p : ℕ → Bool) (d : List ℕ) (i n : ℕ) → i + n ≤ length d → ((k : ℕ) → i ≤ k → k < i + n → p (get_or d k 0) ≡ false) → mask_l (map p (chunk i n d)) ≡ 0
empty_under p d i n room none =
    empty_mask p (chunk i n d) (λ k l.
    let short : k < n = omega (arith, l, length-chunk i n d room) in
    ap p (get_or-chunk i n d k 0 short) ∙ none (i + k) (omega arith) (omega (arith, short)))

module _ (d : List ℕ) (i n y : ℕ) (room : i + n ≤ length d) (few : n ≤ 64) where
  made : (t : ℕ → ℕ → Bool) → mask_of t d i n y ≡ mask_l (map (λ x. t x y) (chunk i n d))
  made t = bitmask_splat w8 t (chunk i n d) n y (length-chunk i n d room) few

  made_above : mask_above d i n y ≡ mask_l (map (λ x. ltb y x) (chunk i n d))
  made_above =
      let lanes = chunk i n d in
      let long = length-chunk i n d room in
      ap (λ l. mask_l l % 2 ^ 64) (tops_compared w8 ltb (replicate n y) lanes ∙ zip2_splat_left ltb y n lanes long)
      ∙ mask_l-mod (map (λ x. ltb y x) lanes) 64 (omega (arith, few, long, length-map lanes (λ x. ltb y x)))

  -- the mask is empty if and only if no byte passes
  pub none_under : (t : ℕ → ℕ → Bool) → mask_of t d i n y ≡ 0 → (k : ℕ) → i ≤ k → k < i + n → t (get_or d k 0) y ≡ false
  none_under t none = none_from_empty_mask (λ x. t x y) d i n 0 room (sym (made t) ∙ none)

  pub is_empty : (t : ℕ → ℕ → Bool) → ((k : ℕ) → i ≤ k → k < i + n → t (get_or d k 0) y ≡ false) → mask_of t d i n y ≡ 0
  is_empty t none = made t ∙ empty_under (λ x. t x y) d i n room none

  pub none_above : mask_above d i n y ≡ 0 → (k : ℕ) → i ≤ k → k < i + n → ltb y (get_or d k 0) ≡ false
  none_above none = none_from_empty_mask (λ x. ltb y x) d i n 0 room (sym made_above ∙ none)

  pub is_empty_above : ((k : ℕ) → i ≤ k → k < i + n → ltb y (get_or d k 0) ≡ false) → mask_above d i n y ≡ 0
  is_empty_above none = made_above ∙ empty_under (λ x. ltb y x) d i n room none
