-- Lists without an element that passes a test.
use Rattle.std.proofs.Common.{◌≡◌, ℕ, List, [], ◌∷◌, ◌++◌, Bool, true, false, not, ◌&&◌, ◌==◌, Some, flat_map, refl}
use Rattle.std.specs.Prelude.{All, ⊤}
use Rattle.std.proofs.lemmas.Bool.{and_parts, not-true}
use Rattle.std.proofs.lemmas.List.Elements.{All-nil, All-cons}
use Rattle.yf_report.specs.Commands.{split_once}

-- ---- no byte that passes a test

abbrev pub Free : (ℕ → Bool) → List ℕ → Type 0
Free p [] = ⊤
Free p (x ∷ xs) = (p x ≡ false) × Free p xs

pub all_free : (p : ℕ → Bool) (xs : List ℕ) → Free p xs → All (λ x. p x ≡ false) xs
all_free p [] h = All-nil (λ x. p x ≡ false)
all_free p (x ∷ xs) h = All-cons (λ y. p y ≡ false) x xs h.0 (all_free p xs h.1)

pub free-append : (p : ℕ → Bool) (xs ys : List ℕ) → Free p xs → Free p ys → Free p (xs ++ ys)
free-append p [] ys h k = k
free-append p (x ∷ xs) ys h k = (h.0, free-append p xs ys h.1 k)

pub free-flat_map : (p : ℕ → Bool) (f : ℕ → List ℕ) → ((x : ℕ) → Free p (f x)) → (s : List ℕ) → Free p (flat_map f s)
free-flat_map p f each [] = tt
free-flat_map p f each (x ∷ s) = free-append p (f x) (flat_map f s) (each x) (free-flat_map p f each s)

pub free_weaker : (p q : ℕ → Bool) → ((x : ℕ) → p x ≡ false → q x ≡ false) → (xs : List ℕ) → Free p xs → Free q xs
free_weaker p q weaker [] h = tt
free_weaker p q weaker (x ∷ xs) h = (weaker x h.0, free_weaker p q weaker xs h.1)

-- a test that computes on the names that are written
abbrev pub none_pass : (ℕ → Bool) → List ℕ → Bool
none_pass p [] = true
none_pass p (x ∷ xs) = not (p x) && none_pass p xs

pub free_by_test : (p : ℕ → Bool) (xs : List ℕ) → none_pass p xs ≡ true → Free p xs
free_by_test p [] h = tt
free_by_test p (x ∷ xs) h =
    let parts = and_parts (not (p x)) (none_pass p xs) h in
    (not-true (p x) parts.0, free_by_test p xs parts.1)

-- ---- the elements before the first one of a kind

pub split_once_at : (c : ℕ) (xs ys : List ℕ) → (c == c) ≡ true → Free (λ b. b == c) xs →
    split_once c (xs ++ c ∷ ys) ≡ Some (xs, ys)
unfolding split_once
split_once_at c [] ys same h = rw same refl
split_once_at c (x ∷ xs) ys same h = rw (h.0, split_once_at c xs ys same h.1) refl
