-- The number of offsets in a list that are before another one.
use Rattle.std.proofs.Common.{◌≡◌, ℕ, ◌+◌, ◌<◌, ◌≤◌, true, false, List, [], ◌∷◌, ◌++◌, length, refl, sym, ap, ◌∙◌, arith, cond, zero-add, Bool, subst}
use Rattle.std.specs.Prelude.{count_by, nat_lt}
use Rattle.std.proofs.lemmas.Bool.Decides.{nat_tests}
use Rattle.std.proofs.lemmas.List.Sums.{sum_by-cons}
use Rattle.yf_chars.proofs.Tests.{below, not_below}

-- all at or after an offset, and all before it
pub data AllFrom : ℕ → List ℕ → Type 0 where
  none_later : {o : ℕ} → AllFrom o []
  one_later : {o s : ℕ} {ss : List ℕ} → o ≤ s → AllFrom o ss → AllFrom o (s ∷ ss)

pub data AllBelow : ℕ → List ℕ → Type 0 where
  none_earlier : {o : ℕ} → AllBelow o []
  one_earlier : {o s : ℕ} {ss : List ℕ} → s < o → AllBelow o ss → AllBelow o (s ∷ ss)

pub later_join : {o : ℕ} {ss rs : List ℕ} → AllFrom o ss → AllFrom o rs → AllFrom o (ss ++ rs)
later_join none_later b = b
later_join (one_later l a) b = one_later l (later_join a b)

pub later_from : {o p : ℕ} {ss : List ℕ} → p ≤ o → AllFrom o ss → AllFrom p ss
later_from l none_later = none_later
later_from l (one_later m a) = one_later (omega (arith, l, m)) (later_from l a)

abbrev pub starts_before : List ℕ → ℕ → ℕ
starts_before ss o = count_by (λ s. nat_lt s o) ss

pub none_before : {o : ℕ} {ss : List ℕ} → AllFrom o ss → starts_before ss o ≡ 0
none_before none_later = refl
none_before {o = o} (one_later {s = s} {ss = ss} l a) =
    sum_by-cons (λ w. cond (nat_lt w o) 1 0) s ss ∙ (ap (λ b. cond b 1 0 + starts_before ss o) (not_below s o l) ∙ (zero-add (starts_before ss o) ∙ none_before a))

pub one_before : (s o : ℕ) (ss : List ℕ) → s < o → starts_before (s ∷ ss) o ≡ 1 + starts_before ss o
one_before s o ss l = sum_by-cons (λ w. cond (nat_lt w o) 1 0) s ss ∙ ap (λ b. cond b 1 0 + starts_before ss o) (below s o l)

pub all_before : {o : ℕ} {ss : List ℕ} (rs : List ℕ) → AllBelow o ss → starts_before (ss ++ rs) o ≡ length ss + starts_before rs o
all_before {o} rs none_earlier = sym (zero-add (starts_before rs o))
all_before {o} rs (one_earlier {s = s} {ss = ss} l a) =
    let one : starts_before (s ∷ (ss ++ rs)) o ≡ 1 + starts_before (ss ++ rs) o = one_before s o (ss ++ rs) l in
    let rest : starts_before (ss ++ rs) o ≡ length ss + starts_before rs o = all_before rs a in
    omega (arith, one, rest)

-- no fewer before a later one
still_less : (s o p : ℕ) → nat_lt s o ≡ true → o ≤ p → nat_lt s p ≡ true
still_less s o p e l = grind (arith, nat_tests)

one_more : (s o p : ℕ) → o ≤ p → cond (nat_lt s o) 1 0 ≤ cond (nat_lt s p) 1 0
one_more s o p l = by (nat_lt s o) refl where
  by : (b : Bool) → nat_lt s o ≡ b → cond b 1 0 ≤ cond (nat_lt s p) 1 0
  by true e = subst (λ b. 1 ≤ cond b 1 0) (sym (still_less s o p e l)) (omega arith)
  by false e = omega arith

pub starts_more : (ss : List ℕ) (o p : ℕ) → o ≤ p → starts_before ss o ≤ starts_before ss p
starts_more [] o p l = omega arith
starts_more (s ∷ ss) o p l =
    let first : starts_before (s ∷ ss) o ≡ cond (nat_lt s o) 1 0 + starts_before ss o = sum_by-cons (λ w. cond (nat_lt w o) 1 0) s ss in
    let second : starts_before (s ∷ ss) p ≡ cond (nat_lt s p) 1 0 + starts_before ss p = sum_by-cons (λ w. cond (nat_lt w p) 1 0) s ss in
    let here : cond (nat_lt s o) 1 0 ≤ cond (nat_lt s p) 1 0 = one_more s o p l in
    let rest : starts_before ss o ≤ starts_before ss p = starts_more ss o p l in
    omega (arith, first, second, here, rest)
