-- Sets of texts, and tests of entries by them.
use Rattle.std.proofs.Common.{◌≡◌, ℕ, ◌+◌, ◌<◌, ◌≤◌, Bool, true, false, not, ◌&&◌, ◌||◌, List, [], ◌∷◌, ◌++◌, length, map}
use Rattle.std.proofs.Common.{take, get_or, String, cond, refl, sym, ap, ◌∙◌, subst}
use Rattle.std.specs.Prelude.{bytes_eq, filter}
use Rattle.std.specs.BTreeSet.{BTreeSet, IsEmpty, contains_text}
use Rattle.std.proofs.lemmas.Cmp.{nat_list_eq_equiv}
use Rattle.std.proofs.lemmas.List.{map_push, take_more, take_all}
use Rattle.std.proofs.lemmas.List.Folds.{list_any-append}
use Rattle.yf_baseline.specs.Baselines.{entry_line}
use Rattle.yf_baseline.specs.Listed.{is_missing, missing}
use Rattle.yf_baseline.specs.SeenTexts.{Holds, is_among}
use Rattle.yf_baseline.specs.declared.entry.Entry.{Entry}
use Rattle.yf_baseline.proofs.ListLemmas.{same_filter}

or_true : (x y : Bool) → y ≡ true → true ≡ (x || (y || false))
or_true x y e = rw e (elim x as (λ v. true ≡ (v || true)) [ true ↦ refl | false ↦ refl ])

or_false : (x y : Bool) → y ≡ false → x ≡ (x || (y || false))
or_false x y e = rw e (elim x as (λ v. v ≡ (v || false)) [ true ↦ refl | false ↦ refl ])

module _ {Y : Type 0} where
  pub holds_none : (set : BTreeSet (String Y)) → IsEmpty set → Holds set []
  holds_none set empty text = rw empty refl

  -- a set with one more text
  pub holds_more : (old new : BTreeSet (String Y)) (text : List ℕ) (texts : List (List ℕ)) → Holds old texts →
      ((other : List ℕ) → contains_text new other ≡ cond (bytes_eq text other) true (contains_text old other)) →
      Holds new (texts ++ text ∷ [])
  holds_more old new text texts h sets other =
      sets other ∙ cases (bytes_eq text other) refl
      ∙ sym (list_any-append (λ t. bytes_eq other t) texts (text ∷ []))
    where
      cases : (b : Bool) → bytes_eq text other ≡ b →
          cond (bytes_eq text other) true (contains_text old other) ≡
          (is_among texts other || (bytes_eq other text || false))
      cases true same =
          let back : bytes_eq other text ≡ true = nat_list_eq_equiv.symm other text ∙ same in
          rw same (or_true (is_among texts other) (bytes_eq other text) back)
      cases false differs =
          let back : bytes_eq other text ≡ false = nat_list_eq_equiv.symm other text ∙ differs in
          rw differs (h other ∙ or_false (is_among texts other) (bytes_eq other text) back)

  -- the set has the texts of the first i items
  pub holds_taken : {X : Type 0} (f : X → List ℕ) (xs : List X) (i : ℕ) (d : X) (old new : BTreeSet (String Y))
      (text : List ℕ) → i < length xs → text ≡ f (get_or xs i d) → Holds old (map f (take i xs)) →
      ((other : List ℕ) → contains_text new other ≡ cond (bytes_eq text other) true (contains_text old other)) →
      Holds new (map f (take (i + 1) xs))
  holds_taken f xs i d old new text within same h sets =
      let more : map f (take i xs) ++ text ∷ [] ≡ map f (take (i + 1) xs) =
      ap (λ t. map f (take i xs) ++ t ∷ []) same ∙ sym (map_push f (take i xs) (get_or xs i d))
      ∙ ap (map f) (sym (take_more xs i d within)) in
      subst (Holds new) more (holds_more old new text (map f (take i xs)) h sets)

  pub holds_all : {X : Type 0} (f : X → List ℕ) (xs : List X) (i : ℕ) (set : BTreeSet (String Y)) → length xs ≤ i →
      Holds set (map f (take i xs)) → Holds set (map f xs)
  holds_all f xs i set over h = subst (λ l. Holds set (map f l)) (take_all i xs over) h

  -- ---- a test by the sets

  pub missing_is : (files current : BTreeSet (String Y)) (found baseline : List Entry) (names lines : List (List ℕ)) →
      found ≡ filter (λ e. contains_text files e.file && not (contains_text current (entry_line e))) baseline →
      Holds files names → Holds current lines → found ≡ missing names lines baseline
  missing_is files current found baseline names lines is h k =
      is ∙ same_filter (λ e. contains_text files e.file && not (contains_text current (entry_line e)))
      (λ e. is_missing names lines e) (λ e. rw (h e.file, k (entry_line e)) refl) baseline
