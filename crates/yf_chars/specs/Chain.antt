-- Productions as relations between offsets: S i j x says that the characters from i to j are derived with the meaning
-- x, a list. A star of the grammar is a chain of steps.
use Rattle.std.specs.Prelude.{◌≡◌, ℕ, ◌<◌, ◌≤◌, Bool, true, List, [], ◌∷◌, ◌++◌}
use Rattle.yf_chars.specs.Text.{code, next}

-- zero or more steps, with their meanings joined
pub data Chain {A : Type 0} (S : ℕ → ℕ → List A → Type 0) : ℕ → ℕ → List A → Type 0 where
  done : {i : ℕ} → Chain S i i []
  step : {i h j : ℕ} {x y : List A} → S i h x → Chain S h j y → Chain S i j (x ++ y)

-- from each offset, a step leads to only one end, with one meaning, and the end is later
pub record Functional {A : Type 0} (S : ℕ → ℕ → List A → Type 0) : Type 0 where
  pub one_end : {i j k : ℕ} {x y : List A} → S i j x → S i k y → j ≡ k
  pub one_meaning : {i j k : ℕ} {x y : List A} → S i j x → S i k y → x ≡ y
  pub forward : {i j : ℕ} {x : List A} → S i j x → i < j

-- nothing is derived from there
pub record Stuck {X : Type 0} (P : ℕ → X → Type 0) : Type 0 where
  pub none : (j : ℕ) (x : X) → P j x → ⊥

-- the longest part that is derived from there ends at j, and x is its only meaning
pub record Chosen {X : Type 0} (P : ℕ → X → Type 0) (j : ℕ) (x : X) : Type 0 where
  pub derived : P j x
  pub longest : (k : ℕ) (y : X) → P k y → k ≤ j
  pub only : (y : X) → P j y → y ≡ x

-- the corresponding relations for productions without a meaning: nothing is derived from there; the farthest end from
-- there
pub record Nowhere (P : ℕ → Type 0) : Type 0 where
  pub none : (j : ℕ) → P j → ⊥

pub record Farthest (P : ℕ → Type 0) (j : ℕ) : Type 0 where
  pub derived : P j
  pub longest : (k : ℕ) → P k → k ≤ j

-- one character of a class, which is its own meaning
pub data One (t : List ℕ) (p : ℕ → Bool) : ℕ → ℕ → List ℕ → Type 0 where
  one : {i : ℕ} → p (code t i) ≡ true → One t p i (next t i) (code t i ∷ [])

-- zero or more characters of a class
abbrev pub Many : List ℕ → (ℕ → Bool) → ℕ → ℕ → List ℕ → Type 0
Many t p = Chain (One t p)
