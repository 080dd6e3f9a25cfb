-- Lists that a loop makes item by item.
use Rattle.std.proofs.Common.{◌≡◌, ℕ, ◌+◌, ◌<◌, ◌≤◌, Bool, true, false, List, [], ◌∷◌, ◌++◌, length, drop, get_or}
use Rattle.std.proofs.Common.{refl, sym, ap, ◌∙◌, append_assoc, append-nil}
use Rattle.std.specs.Prelude.{filter}
use Rattle.std.proofs.lemmas.List.{drop_all, drop_more}

pub pushed : {X : Type 0} (old new more whole : List X) (x : X) → new ≡ old ++ x ∷ [] → old ++ (x ∷ more) ≡ whole →
    new ++ more ≡ whole
pushed old new more whole x e h = ap (λ l. l ++ more) e ∙ append_assoc old (x ∷ []) more ∙ h

pub same_filter : {X : Type 0} (p q : X → Bool) → ((x : X) → p x ≡ q x) → (xs : List X) → filter p xs ≡ filter q xs
same_filter p q h [] = refl
same_filter p q h (x ∷ xs) = rw (h x, same_filter p q h xs) refl

module _ {X : Type 0} (p : X → Bool) (xs : List X) (i : ℕ) (d : X) (old : List X) (within : i < length xs)
    (h : old ++ filter p (drop i xs) ≡ filter p xs) where
  here : old ++ filter p (get_or xs i d ∷ drop (i + 1) xs) ≡ filter p xs
  here = ap (λ l. old ++ filter p l) (sym (drop_more xs i d within)) ∙ h

  pub filter_takes : (new : List X) (x : X) → p (get_or xs i d) ≡ true → x ≡ get_or xs i d → new ≡ old ++ x ∷ [] →
      new ++ filter p (drop (i + 1) xs) ≡ filter p xs
  filter_takes new x holds same push =
      pushed old new (filter p (drop (i + 1) xs)) (filter p xs) x push
      (ap (λ y. old ++ (y ∷ filter p (drop (i + 1) xs))) same ∙ rw holds at here)

  pub filter_leaves : p (get_or xs i d) ≡ false → old ++ filter p (drop (i + 1) xs) ≡ filter p xs
  filter_leaves fails = rw fails at here

pub filter_all : {X : Type 0} (p : X → Bool) (xs : List X) (i : ℕ) (old : List X) → length xs ≤ i →
    old ++ filter p (drop i xs) ≡ filter p xs → old ≡ filter p xs
filter_all p xs i old over h = sym (ap (λ l. old ++ filter p l) (drop_all i xs over) ∙ append-nil old) ∙ h
