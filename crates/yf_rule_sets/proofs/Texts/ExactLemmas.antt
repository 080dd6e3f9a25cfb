-- Laws of lists with exactly the wanted items, as a pass finds them.
use Rattle.std.proofs.Common.{◌≡◌, ℕ, ◌+◌, ◌<◌, ◌≤◌, List, [], ◌∷◌, ◌++◌, Option, Some, None, sym, subst, ◌∙◌, ⊎_elim, arith}
use Rattle.std.specs.List.{Contains}
use Rattle.std.specs.Option.{option_to_list}
use Rattle.std.proofs.lemmas.Bool.{cases_lt}
use Rattle.std.proofs.lemmas.List.{append-nil}
use Rattle.std.proofs.lemmas.List.Elements.{Contains-push, Contains-push_cases, Contains-append_left}
use Rattle.yf_rule_sets.specs.RuleSets.Exact.{IsTheOne, Exactly, UpTo, Sole}

-- nothing is found before the first step
pub none_yet : {A : Type 0} (P : ℕ → A → Type 0) (xs : List A) → xs ≡ [] → UpTo P 0 xs
none_yet P xs e = record {
  only = λ x c. absurd (nothing x (subst (λ ys. Contains ys x) e c));
  all = λ k x l p. absurd (omega arith);
} where
  nothing : {A : Type 0} (x : A) → Contains {X = A} [] x → ⊥
  nothing x c = omega (arith, c.1)

-- a step with a result, and one without
pub one_found : {A : Type 0} (P : ℕ → A → Type 0) (n : ℕ) (xs ys : List A) (x : A) → UpTo P n xs → Sole (P n) x → ys ≡ xs ++ x ∷ [] → UpTo P (n + 1) ys
one_found P n xs ys x u s e = subst (UpTo P (n + 1)) (sym e) (record {
  only = λ y c. ⊎_elim (λ (h : Contains xs y). let w = u.only y h in (w.0, omega (arith, w.1), w.2)) (λ (h : x ≡ y). (n, omega arith, subst (P n) h s.holds))
      (Contains-push_cases xs x y c);
  all = λ k y l p. ⊎_elim (λ (h : k < n). Contains-append_left xs (x ∷ []) y (u.all k y h p))
      (λ (h : n ≤ k). let q : P n y = subst (λ m. P m y) (omega (arith, h, l)) p in
      subst (Contains (xs ++ x ∷ [])) (sym (s.only y q)) (Contains-push xs x))
      (cases_lt k n);
})

pub none_found : {A : Type 0} (P : ℕ → A → Type 0) (n : ℕ) (xs ys : List A) → UpTo P n xs → ((x : A) → P n x → ⊥) → ys ≡ xs → UpTo P (n + 1) ys
none_found P n xs ys u s e = subst (UpTo P (n + 1)) (sym e) (record {
  only = λ y c. let w = u.only y c in (w.0, omega (arith, w.1), w.2);
  all = λ k y l p. ⊎_elim (λ (h : k < n). u.all k y h p)
      (λ (h : n ≤ k). absurd (s y (subst (λ m. P m y) (omega (arith, h, l)) p)))
      (cases_lt k n);
})

-- a step, with a result or without one
pub answer_found : {A : Type 0} (P : ℕ → A → Type 0) (n : ℕ) (xs ys : List A) (answer : Option A) → UpTo P n xs → IsTheOne (P n) answer
    → ys ≡ xs ++ option_to_list answer → UpTo P (n + 1) ys
answer_found P n xs ys None u s e = none_found P n xs ys u s (e ∙ append-nil xs)
answer_found P n xs ys (Some x) u s e = one_found P n xs ys x u s e

-- the unique result under an equivalent relation
pub same_answer : {A : Type 0} {P Q : A → Type 0} → ((x : A) → P x → Q x) → ((x : A) → Q x → P x) → (answer : Option A) → IsTheOne P answer → IsTheOne Q answer
same_answer to back None f = λ x q. f x (back x q)
same_answer to back (Some x) a = record { holds = to x a.holds; only = λ y q. a.only y (back y q) }

-- a pass over all indices with wanted items
pub all_found_upto : {A : Type 0} (P Q : ℕ → A → Type 0) (n : ℕ) (xs : List A) → UpTo P n xs → ((k : ℕ) (x : A) → k < n → P k x → Q k x)
    → ((k : ℕ) (x : A) → Q k x → (k < n) × P k x) → Exactly Q xs
all_found_upto P Q n xs u f g = record {
  only = λ x c. let w = u.only x c in (w.0, f w.0 x w.1 w.2);
  all = λ k x q. let w = g k x q in u.all k x w.0 w.1;
}
