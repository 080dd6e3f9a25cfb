-- Laws of texts without the white space at their end.
use Rattle.std.proofs.Common.{◌≡◌, ◌≢◌, ℕ, ◌-◌, Bool, true, false, true≢false, List, [], ◌∷◌, ◌++◌, Option, Some, None, IfSome, length, take, refl, sym, ap, ◌∙◌, subst, ⊎_elim, arith}
use Rattle.std.proofs.lemmas.Bool.{cases_Bool, cases_eq}
use Rattle.std.proofs.lemmas.Bool.Decides.{nat_tests}
use Rattle.std.proofs.lemmas.Str.{encode_ascii, len_utf8_bounds}
use Rattle.std.specs.Char.{IsScalar, char_set_contains}
use Rattle.std.specs.Str.Pattern.{FindsSuffixBy, IsTrimEndMatches}
use Rattle.yf_chars.specs.Class.{is_white}
use Rattle.yf_forms.specs.Nodes.Lines.{trimmed}
use Rattle.yf_forms.proofs.Texts.BlockLemmas.{Snoc, cut_end, cut_none, cut_one, cut_whites, last_byte, same_cut, snoc}
use Rattle.yf_forms.proofs.Texts.BlockLemmas.Snoc.{nothing, ending_in}
use Rattle.yf_lines.proofs.BasicLemmas.{white_below}

-- the result of the pattern of a space and a tab at the end
abbrev pub FindsBlank : List ℕ → Option ℕ → Type 0
FindsBlank u o = (k : ℕ → Bool) → ((c : ℕ) → char_set_contains (32 ∷ 9 ∷ []) c ≡ k c) → FindsSuffixBy k u o

no_other : (c : ℕ) → is_white c ≡ true → c ≢ 32 → c ≢ 9 → ⊥
unfolding is_white
no_other c e n m = grind (arith, nat_tests)

pub white_scalar : (c : ℕ) → is_white c ≡ true → IsScalar c
white_scalar c e =
    ⊎_elim (λ (f : c ≡ 32). subst IsScalar (sym f) refl)
    (λ (n : c ≢ 32). ⊎_elim (λ (f : c ≡ 9). subst IsScalar (sym f) refl) (λ (m : c ≢ 9). absurd (no_other c e n m)) (cases_eq c 9)) (cases_eq c 32)

same_kind : (c : ℕ) → char_set_contains (32 ∷ 9 ∷ []) c ≡ is_white c
unfolding is_white
same_kind c = grind (arith, nat_tests)

cut_white : (m : List ℕ) (n : ℕ) → FindsBlank m (Some n) → cut_end is_white m ≡ cut_end is_white (take (length m - n) m)
cut_white m n f = one (f is_white same_kind) where
  one : FindsSuffixBy is_white m (Some n) → cut_end is_white m ≡ cut_end is_white (take (length m - n) m)
  one (c, w, at) = ap (cut_end is_white) (last_byte c m n (encode_ascii c (white_below c w)) at) ∙ cut_one is_white (take (length m - n) m) c w

whole : (o : Option ℕ) {r : List ℕ} → FindsSuffixBy is_white r o → IfSome o (λ n. n ≡ 0) → Snoc r → cut_end is_white r ≡ r
whole (Some n) {r} (c, w, at) z e = absurd (omega (arith, at.ends, len_utf8_bounds c, z))
whole None none z nothing = refl
whole None none z (ending_in bs b) = ⊎_elim (λ (e : is_white b ≡ true). absurd (true≢false (sym e ∙ none b bs (white_scalar b e) (ap (λ w. bs ++ w) (sym (encode_ascii b (white_below b e)))))))
    (λ (e : is_white b ≡ false). cut_none is_white bs b e) (cases_Bool (is_white b))

pub without_whites_is : {s r : List ℕ} → IsTrimEndMatches FindsBlank s r → r ≡ trimmed s
without_whites_is {s} {r} ((ns, cuts), (o, found, zero_wide)) =
    sym (cut_whites s ∙ same_cut FindsBlank (cut_end is_white) cut_white s ns r cuts ∙ whole o (found is_white same_kind) zero_wide (snoc r))
