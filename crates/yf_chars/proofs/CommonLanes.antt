-- From the masks of a vector to bytes that need no escape.
use Rattle.std.proofs.Common.{◌≡◌, ℕ, ◌+◌, ◌≤◌, Bool, true, false, true≢false, eqb, ltb, List, length, refl, sym, arith}
use Rattle.std.proofs.lemmas.Bool.Decides.{nat_tests}
use Rattle.std.specs.Prelude.{◌≢◌}
use Rattle.yf_chars.specs.Class.{is_between}
use Rattle.yf_chars.specs.Common.{AreCommon, is_common}
use Rattle.yf_chars.specs.CommonParts.{CommonBetween, TellsCommon}
use Rattle.yf_chars.proofs.LaneMasks.{mask_of, mask_above, none_under, none_above, is_empty, is_empty_above}

in_none : (c : ℕ) → eqb c 34 ≡ false → eqb c 92 ≡ false → ltb 126 c ≡ false → ltb c 32 ≡ false → is_common c ≡ true
unfolding is_common is_between
in_none c p q r s = grind (arith, nat_tests, p, q, r, s)

no_quote : (c : ℕ) → is_common c ≡ true → eqb c 34 ≡ false
unfolding is_common is_between
no_quote c e = grind (arith, nat_tests)

no_backslash : (c : ℕ) → is_common c ≡ true → eqb c 92 ≡ false
unfolding is_common is_between
no_backslash c e = grind (arith, nat_tests)

not_high : (c : ℕ) → is_common c ≡ true → ltb 126 c ≡ false
unfolding is_common is_between
not_high c e = grind (arith, nat_tests)

not_low : (c : ℕ) → is_common c ≡ true → ltb c 32 ≡ false
unfolding is_common is_between
not_low c e = grind (arith, nat_tests)

module _ (d : List ℕ) (i n : ℕ) (room : i + n ≤ length d) (few : n ≤ 64) where
  pub has_quote : (mask_of eqb d i n 34 ≢ 0) → CommonBetween d i (i + n) → ⊥
  has_quote some all = some (is_empty d i n 34 room few eqb (λ k p q. no_quote _ (all k p q)))

  pub has_backslash : (mask_of eqb d i n 92 ≢ 0) → CommonBetween d i (i + n) → ⊥
  has_backslash some all = some (is_empty d i n 92 room few eqb (λ k p q. no_backslash _ (all k p q)))

  pub has_high : (mask_above d i n 126 ≢ 0) → CommonBetween d i (i + n) → ⊥
  has_high some all = some (is_empty_above d i n 126 room few (λ k p q. not_high _ (all k p q)))

  pub common_lanes : mask_of eqb d i n 34 ≡ 0 → mask_of eqb d i n 92 ≡ 0 → mask_above d i n 126 ≡ 0
      → (b : Bool) → (b ≡ true → mask_of ltb d i n 32 ≡ 0) → (b ≡ false → mask_of ltb d i n 32 ≢ 0) → TellsCommon b d i (i + n)
  common_lanes quotes slashes high false clear some = λ all. some refl (is_empty d i n 32 room few ltb (λ k p q. not_low _ (all k p q)))
  common_lanes quotes slashes high true clear some = λ k p q.
      in_none _ (none_under d i n 34 room few eqb quotes k p q) (none_under d i n 92 room few eqb slashes k p q) (none_above d i n 126 room few high k p q)
      (none_under d i n 32 room few ltb (clear refl) k p q)

pub common_all : (t : List ℕ) (b : Bool) → TellsCommon b t 0 (length t) → b ≡ true → AreCommon t
common_all t false all e = absurd (true≢false (sym e))
common_all t true all e = λ k l. all k (omega arith) l

pub all_told : (t : List ℕ) (b : Bool) → TellsCommon b t 0 (length t) → AreCommon t → b ≡ true
all_told t false not_all all = absurd (not_all (λ k _ l. all k l))
all_told t true told all = refl
