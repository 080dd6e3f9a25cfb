-- Two lists that are read together, and the entries of problems.
use Rattle.std.proofs.Common.{◌≡◌, ℕ, ◌+◌, ◌<◌, ◌≤◌, List, [], ◌∷◌, ◌++◌, length, map, take, drop, get_or, sym, ap, ◌∙◌, refl}
use Rattle.std.proofs.lemmas.List.{append_assoc, append-nil, drop_all, drop_more, map-append, take_all, take_more}
use Rattle.yf_baseline.specs.Entries.{kept_of}
use Rattle.yf_baseline.specs.declared.entry.Found.{Found}
use Rattle.yf_findings.specs.Baselines.{flat_zip, kept_in}
use Rattle.yf_findings.specs.declared.owned.OwnedProblem.{OwnedProblem}

module _ {A B C : Type 0} (f : A → B → List C) (xs : List A) (k : ℕ) (old whole : List C) where
  -- one more item of both lists
  pub zip_more : (d : A) (ys rest : List B) (y : B) (new : List C) → k < length xs → ys ≡ y ∷ rest → new ≡ old ++ f (get_or xs k d) y
      → old ++ flat_zip f (drop k xs) ys ≡ whole → new ++ flat_zip f (drop (k + 1) xs) rest ≡ whole
  zip_more d ys rest y new within same added before =
      ap (λ cs. cs ++ flat_zip f (drop (k + 1) xs) rest) added
      ∙ append_assoc old (f (get_or xs k d) y) (flat_zip f (drop (k + 1) xs) rest)
      ∙ ap (λ l. old ++ flat_zip f l (y ∷ rest)) (sym (drop_more xs k d within))
      ∙ ap (λ l. old ++ flat_zip f (drop k xs) l) (sym same)
      ∙ before

  -- the first list has no more items
  pub zip_all : (ys : List B) → length xs ≤ k → old ++ flat_zip f (drop k xs) ys ≡ whole → old ≡ whole
  zip_all ys over before = sym (ap (λ l. old ++ flat_zip f l ys) (drop_all k xs over) ∙ append-nil old) ∙ before

no_second : {A B C : Type 0} (f : A → B → List C) (xs : List A) → flat_zip f xs [] ≡ []
no_second f [] = refl
no_second f (x ∷ xs) = refl

-- the second list has no more items
pub zip_end : {A B C : Type 0} (f : A → B → List C) (xs : List A) (k : ℕ) (ys : List B) (old whole : List C) → ys ≡ []
    → old ++ flat_zip f (drop k xs) ys ≡ whole → old ≡ whole
zip_end f xs k ys old whole none before =
    sym (ap (λ l. old ++ flat_zip f (drop k xs) l) none ∙ ap (λ cs. old ++ cs) (no_second f (drop k xs)) ∙ append-nil old) ∙ before

-- the parts of one more problem
pub kept_more : (ps : List OwnedProblem) (k : ℕ) (d : OwnedProblem) (found more : List Found) (one : Found) → k < length ps
    → map kept_of found ≡ map kept_in (take k ps) → kept_of one ≡ kept_in (get_or ps k d) → more ≡ found ++ one ∷ []
    → map kept_of more ≡ map kept_in (take (k + 1) ps)
kept_more ps k d found more one within before same added =
    ap (map kept_of) added ∙ map-append kept_of found (one ∷ []) ∙ ap (λ ks. ks ++ kept_of one ∷ []) before
    ∙ ap (λ one. map kept_in (take k ps) ++ one ∷ []) same ∙ sym (map-append kept_in (take k ps) (get_or ps k d ∷ []))
    ∙ ap (map kept_in) (sym (take_more ps k d within))

pub kept_all : (ps : List OwnedProblem) (k : ℕ) (found : List Found) → length ps ≤ k → map kept_of found ≡ map kept_in (take k ps)
    → map kept_of found ≡ map kept_in ps
kept_all ps k found over before = before ∙ ap (map kept_in) (take_all k ps over)
