-- Facts that cannot be refuted. If such a fact implies a fact that a test can decide, for example that two numbers are
-- equal, the latter holds. So a proof may take cases of any fact, with or without a test of it.
use Rattle.std.proofs.Common.{◌≡◌, ℕ, suc, zero, ◌<◌, ◌≤◌, ⊎_elim, subst, arith}
use Rattle.std.proofs.lemmas.Bool.{cases_lt}
use Rattle.yf_chars.specs.Chain.{Stuck, Chosen}

pub record Irrefutable (A : Type 0) : Type 0 where
  pub held : (A → ⊥) → ⊥

pub sure : {A : Type 0} → A → Irrefutable A
sure a = record { held = λ n. n a }

pub then : {A B : Type 0} → Irrefutable A → (A → Irrefutable B) → Irrefutable B
then a f = record { held = λ n. a.held (λ x. (f x).held n) }

pub by_cases : (A : Type 0) {B : Type 0} → (A → Irrefutable B) → ((A → ⊥) → Irrefutable B) → Irrefutable B
by_cases A f g = record { held = λ n. (g (λ a. (f a).held n)).held n }

-- the longest part of a production, with its one meaning, or no part
pub data ChosenOrStuck {X : Type 0} (P : ℕ → X → Type 0) : Type 0 where
  reached : (j : ℕ) (x : X) → Chosen P j x → ChosenOrStuck P
  unreached : Stuck P → ChosenOrStuck P

-- a part that is derived
pub record Part {X : Type 0} (P : ℕ → X → Type 0) : Type 0 where
  pub end : ℕ
  pub meaning : X
  pub derived : P end meaning

record Ends {X : Type 0} (P : ℕ → X → Type 0) (j : ℕ) : Type 0 where
  meaning : X
  derived : P j meaning

module _ {X : Type 0} (P : ℕ → X → Type 0) where
  -- if all parts have one end and one meaning
  pub one_reached : ((j k : ℕ) (x y : X) → P j x → P k y → (k ≡ j) × (y ≡ x)) → Irrefutable (ChosenOrStuck P)
  one_reached one = by_cases (Part P)
      (λ p. sure (reached p.end p.meaning (record {
        derived = p.derived;
        longest = λ k y d. let e = (one p.end k p.meaning y p.derived d).0 in omega arith;
        only = λ y d. (one p.end p.end p.meaning y p.derived d).1;
      })))
      (λ n. sure (unreached (record { none = λ j x d. n (record { end = j; meaning = x; derived = d }) })))

  unended : ((j : ℕ) (x : X) → P j x → j ≤ 0) → (Ends P 0 → ⊥) → Stuck P
  unended far n = record {
    none = λ j x d.
        let l = far j x d in
        let e : j ≡ 0 = omega arith in
        n (record { meaning = x; derived = subst (λ w. P w x) e d });
  }

  lower : (b : ℕ) → ((j : ℕ) (x : X) → P j x → j ≤ suc b) → (Ends P (suc b) → ⊥) → (j : ℕ) (x : X) → P j x → j ≤ b
  lower b far n j x d = ⊎_elim
      (λ (m : j < suc b). omega arith)
      (λ (m : suc b ≤ j).
      let l = far j x d in
      let e : j ≡ suc b = omega arith in
      absurd (n (record { meaning = x; derived = subst (λ w. P w x) e d })))
      (cases_lt j (suc b))

  farthest : (b : ℕ) → ((j : ℕ) (x : X) → P j x → j ≤ b) → ((j : ℕ) (x y : X) → P j x → P j y → y ≡ x) → Ends P b → Irrefutable (ChosenOrStuck P)
  farthest b far one p = sure (reached b p.meaning (record { derived = p.derived; longest = far; only = λ y d. one b p.meaning y p.derived d }))

  -- if the ends are bounded, and parts with one end have one meaning
  pub bounded_reached : (b : ℕ) → ((j : ℕ) (x : X) → P j x → j ≤ b) → ((j : ℕ) (x y : X) → P j x → P j y → y ≡ x) → Irrefutable (ChosenOrStuck P)
  bounded_reached zero far one = by_cases (Ends P 0) (λ p. farthest 0 far one p) (λ n. sure (unreached (unended far n)))
  bounded_reached (suc b) far one = by_cases (Ends P (suc b)) (λ p. farthest (suc b) far one p) (λ n. bounded_reached b (lower b far n) one)
