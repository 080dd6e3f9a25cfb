-- Lists of flags, one for each line, by the line's index.
use Rattle.std.specs.Prelude.{◌≡◌, ℕ, ◌<◌, ◌⊎◌, Bool, true, false, List, length, get_or}

-- the new list also flags the lines k for which P k holds
pub record FlagsAdded (old new : List Bool) (P : ℕ → Type 0) : Type 0 where
  pub len : length new ≡ length old
  pub only : (k : ℕ) → get_or new k false ≡ true → (get_or old k false ≡ true) ⊎ P k
  pub kept : (k : ℕ) → get_or old k false ≡ true → get_or new k false ≡ true
  pub all : (k : ℕ) → k < length old → P k → get_or new k false ≡ true

-- the list flags exactly the lines k with P i k for one of the first n events i
pub record FlagsOf (list : List Bool) (n : ℕ) (P : ℕ → ℕ → Type 0) : Type 0 where
  pub only : (k : ℕ) → get_or list k false ≡ true → (i : ℕ) × (i < n) × P i k
  pub all : (i k : ℕ) → i < n → k < length list → P i k → get_or list k false ≡ true

-- the list flags exactly the lines k for which P k holds
pub record ListTells (list : List Bool) (P : ℕ → Type 0) : Type 0 where
  pub only : (k : ℕ) → get_or list k false ≡ true → P k
  pub all : (k : ℕ) → P k → get_or list k false ≡ true
