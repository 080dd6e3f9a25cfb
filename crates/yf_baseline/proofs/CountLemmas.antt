-- The marks that were seen are counted.
use Rattle.std.proofs.Common.{◌≡◌, ℕ, ◌+◌, Bool, true, false, List, [], ◌∷◌, ◌++◌, Some, String}
use Rattle.std.proofs.Common.{refl, ap, ◌∙◌, arith, if◌then◌else◌}
use Rattle.std.specs.Prelude.{bytes_eq}
use Rattle.std.specs.Option.{unwrap_or}
use Rattle.std.specs.Map.{update}
use Rattle.std.specs.BTreeMap.{BTreeMap, get_by_text}
use Rattle.std.proofs.lemmas.Cmp.{nat_list_eq_equiv}
use Rattle.std.proofs.lemmas.List.Sums.{sum_by_push}
use Rattle.std.proofs.lemmas.Slice.Eq.{bytes_eq-Decides}
use Rattle.yf_baseline.specs.SeenTexts.{IsCounted, CountsOneMore, count_of, occurrences}

-- a text is counted once more if its count is set to one more
pub counts_one_more : {Y : Type 0} (old new : BTreeMap (String Y) ℕ) (text : List ℕ) (next : ℕ) →
    next ≡ count_of old text + 1 →
    ((other : List ℕ) → get_by_text new other ≡ update bytes_eq (get_by_text old) text (Some next) other) →
    CountsOneMore old new text
counts_one_more old new text next e sets other =
    ap (λ o. unwrap_or o 0) (sets other) ∙ cases (bytes_eq text other) refl
  where
    cases : (b : Bool) → bytes_eq text other ≡ b →
        unwrap_or (if bytes_eq text other then Some next else get_by_text old other) 0 ≡
        count_of old other + (if bytes_eq other text then 1 else 0)
    cases true same =
        let equal : text ≡ other = (bytes_eq-Decides text other).0 same in
        rw (nat_list_eq_equiv.symm other text, same)
        (omega (arith, e, ap (λ d. count_of old d) equal))
    cases false differs = rw (nat_list_eq_equiv.symm other text, differs) (omega arith)

pub occurrences-push : (text other : List ℕ) (seen : List (List ℕ)) →
    occurrences text (seen ++ other ∷ []) ≡ occurrences text seen + (if bytes_eq text other then 1 else 0)
occurrences-push text other seen = sum_by_push (λ x. if bytes_eq text x then 1 else 0) seen other

pub counts_more : {Y : Type 0} (old new : BTreeMap (String Y) ℕ) (text : List ℕ) (seen : List (List ℕ)) →
    IsCounted old seen → CountsOneMore old new text → IsCounted new (seen ++ text ∷ [])
counts_more old new text seen counted more other =
    omega (arith, counted other, more other, occurrences-push other text seen)
