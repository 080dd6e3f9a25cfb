-- A line of the source and its caret.
use Rattle.std.proofs.Common.{◌≡◌, ◌<◌, ◌≤◌, ◌+◌, ◌++◌, ◌∷◌, ◌∙◌, ℕ, List, [], add-one, ap, refl, sym, arith}
use Rattle.std.proofs.lemmas.List.{append_assoc, append-nil}
use Rattle.yf_lines.specs.Lines.{NoBreakIn}
use Rattle.yf_explain.specs.Source.{spaces}

-- six parts were added
pub six_added : (old a b c d e f p q r s t u : List ℕ) → p ≡ old ++ a → q ≡ p ++ b → r ≡ q ++ c → s ≡ r ++ d → t ≡ s ++ e → u ≡ t ++ f
    → u ≡ old ++ (a ++ (b ++ (c ++ (d ++ (e ++ f)))))
six_added old a b c d e f p q r s t u h i j k l m =
    let flat : u ≡ (((((old ++ a) ++ b) ++ c) ++ d) ++ e) ++ f = cc in flat ∙ simp append_assoc

-- a front of a line
pub front_unbroken : {t : List ℕ} {i j : ℕ} (k : ℕ) → NoBreakIn t i j → i ≤ k → k ≤ j → NoBreakIn t i k
front_unbroken k u from to = record { order = from; none = λ h a b. u.none h a (omega (arith, b, to)) }

-- the rest of a line
pub rest_unbroken : {t : List ℕ} {i j : ℕ} (k : ℕ) → NoBreakIn t i j → i ≤ k → k ≤ j → NoBreakIn t k j
rest_unbroken k u from to = record { order = to; none = λ h a b. u.none h (omega (arith, a, from)) b }

pub no_spaces : (page : List ℕ) → page ≡ page ++ spaces 0
unfolding spaces
no_spaces page = sym (append-nil page)

pub more_spaces : (old new page : List ℕ) (n : ℕ) → page ≡ old ++ spaces n → new ≡ page ++ 32 ∷ [] → new ≡ old ++ spaces (n + 1)
unfolding spaces
more_spaces old new page n e f = rw add-one (f ∙ (ap (λ x. x ++ 32 ∷ []) e ∙ append_assoc old (spaces n) (32 ∷ [])))
