-- Double quotes hold texts of characters that need no escape unchanged.
use Rattle.std.proofs.Common.{◌≡◌, ℕ, zero, suc, ◌<◌, true, false, List, [], ◌∷◌, ◌++◌, refl, ap, ◌∙◌, arith, flat_map, encode_utf8_all}
use Rattle.std.specs.Prelude.{is_some}
use Rattle.std.specs.Str.{IsAscii, chars}
use Rattle.std.proofs.lemmas.Bool.Decides.{nat_tests}
use Rattle.std.proofs.lemmas.Str.{chars-IsAscii, encodes-IsAscii}
use Rattle.yf_chars.specs.Class.{is_between}
use Rattle.yf_chars.specs.Common.{AreCommon, is_common}
use Rattle.yf_chars.specs.Escape.{is_by_two, is_by_four, short_name, spelled}
use Rattle.yf_chars.specs.Hidden.{spelled_out}
use Rattle.yf_chars.proofs.EscapeLemmas.{spelled_none, spelled_self}
use Rattle.yf_chars.proofs.HiddenLemmas.{low_itself, spelled_alike}
use Rattle.yf_chars.proofs.Tests.{none_there}

pub common_below : (c : ℕ) → is_common c ≡ true → c < 128
unfolding is_common is_between
common_below c e = grind (arith, nat_tests)

common_no_letter : (c : ℕ) → is_common c ≡ true → is_some (short_name c) ≡ false
unfolding is_common is_between short_name
common_no_letter c e = grind (arith, nat_tests)

common_not_by_two : (c : ℕ) → is_common c ≡ true → is_by_two c ≡ false
unfolding is_common is_between is_by_two
common_not_by_two c e = grind (arith, nat_tests)

common_not_by_four : (c : ℕ) → is_common c ≡ true → is_by_four c ≡ false
unfolding is_common is_between is_by_four
common_not_by_four c e = grind (arith, nat_tests)

pub common_spelled : (c : ℕ) → is_common c ≡ true → spelled c ≡ c ∷ []
common_spelled c e = spelled_none c (none_there (short_name c) (common_no_letter c e)) ∙ spelled_self c (common_not_by_two c e) (common_not_by_four c e)

common_ascii : (t : List ℕ) → AreCommon t → IsAscii t
common_ascii [] a i = omega arith
common_ascii (b ∷ t) a zero = common_below b (a 0 (omega arith))
common_ascii (b ∷ t) a (suc i) = common_ascii t (λ k l. a (suc k) (omega (arith, l))) i

pub common_out : (c : ℕ) → is_common c ≡ true → spelled_out c ≡ c ∷ []
common_out c e = let low = common_below c e in spelled_alike c (low_itself c (omega arith)) ∙ common_spelled c e

-- such a text is unchanged if each common character is
module _ (f : ℕ → List ℕ) (itself : (c : ℕ) → is_common c ≡ true → f c ≡ c ∷ []) where
  common_each : (t : List ℕ) → AreCommon t → flat_map f t ≡ t
  common_each [] a = refl
  common_each (b ∷ t) a =
      ap (λ w. w ++ flat_map f t) (itself b (a 0 (omega arith))) ∙ ap (λ w. b ∷ w) (common_each t (λ k l. a (suc k) (omega (arith, l))))

  pub common_spelling_by : (t : List ℕ) → AreCommon t → flat_map f (chars t) ≡ t
  common_spelling_by t a = ap (λ w. flat_map f w) (chars-IsAscii t (common_ascii t a)) ∙ common_each t a

  pub common_text_by : (t : List ℕ) → AreCommon t → encode_utf8_all (flat_map f (chars t)) ≡ t
  common_text_by t a = ap encode_utf8_all (common_spelling_by t a) ∙ encodes-IsAscii t (common_ascii t a)

pub common_spelling : (t : List ℕ) → AreCommon t → flat_map spelled (chars t) ≡ t
common_spelling = common_spelling_by spelled common_spelled

pub common_text : (t : List ℕ) → AreCommon t → encode_utf8_all (flat_map spelled (chars t)) ≡ t
common_text = common_text_by spelled common_spelled
