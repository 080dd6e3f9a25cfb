-- Lists with exactly the wanted items, in any order.
use Rattle.std.specs.Prelude.{◌≡◌, ℕ, ◌<◌, List, Option, MatchOption}
use Rattle.std.specs.List.{Contains}

-- the list contains exactly the x with P k x for some index k
pub record Exactly {A : Type 0} (P : ℕ → A → Type 0) (xs : List A) : Type 0 where
  pub only : (x : A) → Contains xs x → (k : ℕ) × P k x
  pub all : (k : ℕ) (x : A) → P k x → Contains xs x

-- the list contains exactly the x with P k x for some index k below n
pub record UpTo {A : Type 0} (P : ℕ → A → Type 0) (n : ℕ) (xs : List A) : Type 0 where
  pub only : (x : A) → Contains xs x → (k : ℕ) × (k < n) × P k x
  pub all : (k : ℕ) (x : A) → k < n → P k x → Contains xs x

-- P holds for x, and only for x
pub record Sole {A : Type 0} (P : A → Type 0) (x : A) : Type 0 where
  pub holds : P x
  pub only : (y : A) → P y → y ≡ x

-- the result is the only x with P, or `None` if there is none
abbrev pub IsTheOne : {A : Type 0} → (A → Type 0) → Option A → Type 0
IsTheOne P answer = MatchOption answer ((x : _) → P x → ⊥) (λ x. Sole P x)
