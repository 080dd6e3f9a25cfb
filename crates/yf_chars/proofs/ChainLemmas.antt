-- Chains of steps: they grow, two chains from one offset meet, and the greedy chain is the longest.
use Rattle.std.proofs.Common.{true≢false, Bool, true, false, ◌≡◌, ℕ, ◌<◌, ◌≤◌, List, [], ◌∷◌, ◌++◌, refl, sym, ap, ◌∙◌, subst, arith, append_assoc, append-nil}
use Rattle.yf_chars.specs.Text.{code, next}
use Rattle.yf_chars.proofs.TextLemmas.{next_later}
use Rattle.yf_chars.specs.Chain.{Chain, Functional, Stuck, Chosen, One, Many}
use Rattle.yf_chars.specs.Chain.One.{one}
use Rattle.yf_chars.specs.Chain.Chain.{done, step}

module _ {A : Type 0} {S : ℕ → ℕ → List A → Type 0} where
  pub chain_append : {i j k : ℕ} {x y : List A} → Chain S i j x → Chain S j k y → Chain S i k (x ++ y)
  chain_append done d = d
  chain_append (step {x = x} {y = y} s c) d = rw append_assoc (step s (chain_append c d))

  pub chain_one : {i j : ℕ} {x : List A} → S i j x → Chain S i j x
  chain_one {i} {j} {x} s = subst (λ w. Chain S i j w) (append-nil x) (step s done)

  -- one more step at the end, as a loop takes it
  pub chain_more : {i j k : ℕ} {x y : List A} → Chain S i j x → S j k y → Chain S i k (x ++ y)
  chain_more c s = chain_append c (chain_one s)

  pub chain_forward : {i j : ℕ} {x : List A} → Functional S → Chain S i j x → i ≤ j
  chain_forward f done = omega arith
  chain_forward f (step s c) = let a = f.forward s in let b = chain_forward f c in omega arith

-- a chain that goes nowhere, or its first step and the rest
data Starts {A : Type 0} (S : ℕ → ℕ → List A → Type 0) : ℕ → ℕ → List A → Type 0 where
  stays : {i : ℕ} → Starts S i i []
  moves : {i h j : ℕ} {x y : List A} → S i h x → Chain S h j y → Starts S i j (x ++ y)

-- of two chains from one offset, one is the prefix of the other
pub data Meets {A : Type 0} (S : ℕ → ℕ → List A → Type 0) (j k : ℕ) (x y : List A) : Type 0 where
  goes_on : (z : List A) → Chain S j k z → y ≡ x ++ z → Meets S j k x y
  falls_short : (z : List A) → Chain S k j z → x ≡ y ++ z → Meets S j k x y

module _ {A : Type 0} {S : ℕ → ℕ → List A → Type 0} where
  meets_after : {j k : ℕ} {x y : List A} (w : List A) → Meets S j k x y → Meets S j k (w ++ x) (w ++ y)
  meets_after {x = x} w (goes_on z c e) = goes_on z c (ap (λ v. w ++ v) e ∙ sym (append_assoc w x z))
  meets_after {y = y} w (falls_short z c e) = falls_short z c (ap (λ v. w ++ v) e ∙ sym (append_assoc w y z))

  meet_after : {i h j k : ℕ} {x y z : List A} → Functional S → S i h x → Chain S h j y
      → ((m : ℕ) (w : List A) → Chain S h m w → Meets S j m y w) → Chain S i k z → Meets S j k (x ++ y) z
  meet_after {x = x} {y = y} f s c ih done = falls_short (x ++ y) (step s c) refl
  meet_after {h = h} {j = j} {k = k} {x = x} {y = y} f s c ih (step {y = w} s' c') =
      let c'' : Chain S h k w = subst (λ m. Chain S m k w) (sym (f.one_end s s')) c' in
      subst (λ v. Meets S j k (x ++ y) (v ++ w)) (f.one_meaning s s') (meets_after x (ih k w c''))

  pub chain_meet : {i j k : ℕ} {x y : List A} → Functional S → Chain S i j x → Chain S i k y → Meets S j k x y
  chain_meet {y = y} f done d = goes_on y d refl
  chain_meet f (step s c) d = meet_after f s c (λ m w e. chain_meet f c e) d

  nothing_more : {j k : ℕ} {z : List A} → Stuck (S j) → Chain S j k z → (j ≡ k) × (z ≡ [])
  nothing_more stuck done = (refl, refl)
  nothing_more stuck (step {h = h} {x = x} s c) = absurd (stuck.none h x s)

  longest_of : {j k : ℕ} {x y : List A} → Functional S → Stuck (S j) → Meets S j k x y → k ≤ j
  longest_of f stuck (goes_on z c e) = let n = nothing_more stuck c in omega arith
  longest_of f stuck (falls_short z c e) = chain_forward f c

  only_of : {j : ℕ} {x y : List A} → Functional S → Stuck (S j) → Meets S j j x y → y ≡ x
  only_of {x = x} f stuck (goes_on z c e) = e ∙ ap (λ v. x ++ v) (nothing_more stuck c).1 ∙ append-nil x
  only_of {y = y} f stuck (falls_short z c e) = sym (e ∙ ap (λ v. y ++ v) (nothing_more stuck c).1 ∙ append-nil y)

  -- the chain that goes on until no step is possible is the longest, and its meaning is the only one
  pub chain_chosen : {i j : ℕ} {x : List A} → Functional S → Chain S i j x → Stuck (S j) → Chosen (Chain S i) j x
  chain_chosen f c stuck = record {
    derived = c;
    longest = λ k y d. longest_of f stuck (chain_meet f c d);
    only = λ y d. only_of f stuck (chain_meet f c d);
  }

  -- two chains from one offset that both end stuck are equal
  pub stuck_unique : {i j k : ℕ} {x y : List A} → Functional S → Chain S i j x → Stuck (S j) → Chain S i k y → Stuck (S k)
      → (j ≡ k) × (x ≡ y)
  stuck_unique {i} {j} {k} {x} {y} f c stuck d stuck' =
      let long = (chain_chosen f c stuck).longest k y d in
      let long' = (chain_chosen f d stuck').longest j x c in
      let same : j ≡ k = omega arith in
      (same, sym ((chain_chosen f c stuck).only y (subst (λ m. Chain S i m y) (sym same) d)))

-- runs of a class: a step is unique and moves on, and the run before another character is the longest
module _ (t : List ℕ) (p : ℕ → Bool) where
  one_end : {i j k : ℕ} {x y : List ℕ} → One t p i j x → One t p i k y → j ≡ k
  one_end (one a) (one b) = refl

  one_meaning : {i j k : ℕ} {x y : List ℕ} → One t p i j x → One t p i k y → x ≡ y
  one_meaning (one a) (one b) = refl

  one_forward : {i j : ℕ} {x : List ℕ} → One t p i j x → i < j
  one_forward {i} (one a) = next_later t i

  pub one_functional : Functional (One t p)
  one_functional = record { one_end = λ a b. one_end a b; one_meaning = λ a b. one_meaning a b; forward = λ a. one_forward a }

  one_passes : {i j : ℕ} {x : List ℕ} → One t p i j x → p (code t i) ≡ true
  one_passes (one a) = a

  pub one_stuck : (i : ℕ) → p (code t i) ≡ false → Stuck (One t p i)
  one_stuck i e = record { none = λ j x s. true≢false (sym (one_passes s) ∙ e) }

  -- a chosen run with one more character
  pub many_more : {i j : ℕ} {x : List ℕ} → Many t p i j x → p (code t j) ≡ true → Many t p i (next t j) (x ++ code t j ∷ [])
  many_more c e = chain_more c (one e)

  pub many_chosen : {i j : ℕ} {x : List ℕ} → Many t p i j x → p (code t j) ≡ false → Chosen (Many t p i) j x
  many_chosen {j = j} c e = chain_chosen one_functional c (one_stuck j e)

  pub many_unique : {i j k : ℕ} {x y : List ℕ} → Many t p i j x → p (code t j) ≡ false → Many t p i k y → p (code t k) ≡ false
      → (j ≡ k) × (x ≡ y)
  many_unique {j = j} {k = k} c e d f = stuck_unique one_functional c (one_stuck j e) d (one_stuck k f)
