-- From a vector's masks to bytes that are not escaped.
use Rattle.std.proofs.Common.{◌≡◌, ℕ, ◌+◌, ◌%◌, ◌^◌, ◌<◌, ◌≤◌, Bool, true, false, cond, eqb, ltb, List, length, map, get_or, replicate, refl, sym, ◌∙◌, arith, w8}
use Rattle.std.proofs.lemmas.Bool.Decides.{nat_tests}
use Rattle.std.proofs.lemmas.Simd.{length-chunk, bitmask_splat, none_from_empty_mask}
use Rattle.std.specs.Bool.{OnTrue}
use lib.Lanes.{chunk, mask_l, zip2, top}
use Rattle.yf_events.specs.Notation.{is_escaped}
use Rattle.yf_events.specs.Plain.{PlainBetween}

neither : (c : ℕ) → eqb c 92 ≡ false → ltb c 32 ≡ false → is_escaped c ≡ false
unfolding is_escaped
neither c p q = grind (arith, nat_tests, p, q)

-- the mask of a comparison with one byte, as the code makes it
abbrev pub mask_of : (ℕ → ℕ → Bool) → List ℕ → ℕ → ℕ → ℕ → ℕ
mask_of t d i n y = mask_l (map (top 7) (zip2 (λ a b. cond (t a b) 255 0) (chunk i n d) (replicate n y))) % 2 ^ 64

none_under : (t : ℕ → ℕ → Bool) (d : List ℕ) (i n y : ℕ) → i + n ≤ length d → n ≤ 64 → mask_of t d i n y ≡ 0 → (k : ℕ) → i ≤ k → k < i + n → t (get_or d k 0) y ≡ false
none_under t d i n y room few none =
    none_from_empty_mask (λ x. t x y) d i n 0 room (sym (bitmask_splat w8 t (chunk i n d) n y (length-chunk i n d room) few) ∙ none)

pub plain_lanes : (d : List ℕ) (i n : ℕ) → i + n ≤ length d → n ≤ 64 → mask_of eqb d i n 92 ≡ 0 → (b : Bool) → (b ≡ true → mask_of ltb d i n 32 ≡ 0) → OnTrue b (PlainBetween d i (i + n))
plain_lanes d i n room few slashes false controls = tt
plain_lanes d i n room few slashes true controls = λ k p q.
    neither _ (none_under eqb d i n 92 room few slashes k p q) (none_under ltb d i n 32 room few (controls refl) k p q)
