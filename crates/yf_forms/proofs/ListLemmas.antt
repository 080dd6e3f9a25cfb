-- Lists: facts that this crate and those above it use.
use Rattle.std.proofs.Common.{◌≡◌, ℕ, zero, suc, ◌+◌, List, [], ◌∷◌, ◌++◌, drop, Some, refl, sym, ap, ◌∙◌, add-one, append_assoc, arith}
use Rattle.std.specs.Prelude.{slice_get}
use Rattle.std.proofs.lemmas.Option.{same_Some, slice_get_within}

-- the first element, the others, and the last one

pub last_one : {A : Type 0} (x : A) (xs : List A) → (zs : List A) × (y : A) × (x ∷ xs ≡ zs ++ (y ∷ []))
last_one x [] = ([], x, refl)
last_one x (z ∷ zs) = let s = last_one z zs in (x ∷ s.0, s.1, ap (λ w. x ∷ w) s.2)

-- the element at an index: the elements from it on, and more elements after it

pub drop_here : {A : Type 0} (xs : List A) (i : ℕ) (x : A) → slice_get xs i ≡ Some x → drop i xs ≡ x ∷ drop (i + 1) xs
drop_here [] i x at = absurd (omega (arith, slice_get_within [] i x at))
drop_here (y ∷ xs) zero x at = ap (λ w. w ∷ xs) (same_Some _ _ at)
drop_here (y ∷ xs) (suc i) x at = drop_here xs i x at ∙ ap (λ n. x ∷ drop n xs) (add-one i) ∙ ap (λ n. x ∷ drop n (y ∷ xs)) (sym (add-one (suc i)))

pub at_append : {A : Type 0} (xs ys : List A) (i : ℕ) (x : A) → slice_get xs i ≡ Some x → slice_get (xs ++ ys) i ≡ Some x
at_append [] ys i x e = absurd cc
at_append (y ∷ xs) ys zero x e = e
at_append (y ∷ xs) ys (suc i) x e = at_append xs ys i x e

-- lists one after another

pub three_lists : {A : Type 0} (a b c d : List A) → ((a ++ b) ++ c) ++ d ≡ a ++ (b ++ (c ++ d))
three_lists a b c d = append_assoc (a ++ b) c d ∙ append_assoc a b (c ++ d)
