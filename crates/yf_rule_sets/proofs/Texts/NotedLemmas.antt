-- Laws of flags of lines.
use Rattle.std.proofs.Common.{◌≡◌, ◌≢◌, ℕ, ◌+◌, ◌<◌, ◌≤◌, Bool, true, false, List, length, get_or, set, replicate, refl, sym, subst, ap, ◌∙◌, inl, inr, ⊎_elim, arith, true≢false}
use Rattle.std.proofs.lemmas.Bool.{cases_lt, cases_eq}
use Rattle.std.proofs.lemmas.List.{get_or-set_same, get_or-set_other, get_or-replicate, get_or_past, length-replicate, length-set}
use Rattle.yf_rule_sets.specs.Passes.LineFlags.{FlagsAdded, FlagsOf, ListTells}

-- P holds for k, and k is before the line `at`
pub record Until (P : ℕ → Type 0) (at k : ℕ) : Type 0 where
  pub holds : P k
  pub before : k < at

pub nothing_noted : (xs : List Bool) (P : ℕ → Type 0) (first : ℕ) → ((k : ℕ) → P k → first ≤ k) → FlagsAdded xs xs (Until P first)
nothing_noted xs P first f = record {
  len = refl;
  only = λ k e. inl e;
  kept = λ k e. e;
  all = λ k l p. absurd (let h = f k p.holds in let b = p.before in omega (arith, h, b));
}

later : (P : ℕ → Type 0) (at k : ℕ) → Until P at k → Until P (at + 1) k
later P at k p = record { holds = p.holds; before = let b = p.before in omega (arith, b) }

pub line_noted : (old new out : List Bool) (P : ℕ → Type 0) (at : ℕ) → at < length new → P at → out ≡ set new at true → FlagsAdded old new (Until P at) → FlagsAdded old out (Until P (at + 1))
line_noted old new out P at l p e n = subst (λ xs. FlagsAdded old xs (Until P (at + 1))) (sym e) (record {
  len = length-set new at true ∙ n.len;
  only = λ k q. ⊎_elim (λ (h : k ≡ at). inr (record { holds = subst P (sym h) p; before = omega (arith, h) }))
      (λ (h : k ≢ at). ⊎_elim (λ (o : get_or old k false ≡ true). inl o) (λ (o : Until P at k). inr (later P at k o)) (n.only k (sym (get_or-set_other new at k true false h) ∙ q)))
      (cases_eq k at);
  kept = λ k q. ⊎_elim (λ (h : k ≡ at). subst (λ j. get_or (set new at true) j false ≡ true) (sym h) (get_or-set_same new at true false l))
      (λ (h : k ≢ at). get_or-set_other new at k true false h ∙ n.kept k q) (cases_eq k at);
  all = λ k m q. ⊎_elim (λ (h : k ≡ at). subst (λ j. get_or (set new at true) j false ≡ true) (sym h) (get_or-set_same new at true false l))
      (λ (h : k ≢ at). get_or-set_other new at k true false h ∙ n.all k m (record { holds = q.holds; before = let b = q.before in omega (arith, b, h) })) (cases_eq k at);
})

pub line_left : (old new : List Bool) (P : ℕ → Type 0) (at : ℕ) → (P at → ⊥) → FlagsAdded old new (Until P at) → FlagsAdded old new (Until P (at + 1))
line_left old new P at f n = record {
  len = n.len;
  only = λ k q. ⊎_elim (λ (o : get_or old k false ≡ true). inl o) (λ (o : Until P at k). inr (later P at k o)) (n.only k q);
  kept = n.kept;
  all = λ k m q. ⊎_elim (λ (h : k ≡ at). absurd (f (subst P h q.holds)))
      (λ (h : k ≢ at). n.all k m (record { holds = q.holds; before = let b = q.before in omega (arith, b, h) })) (cases_eq k at);
}

pub lines_noted : (old new : List Bool) (P : ℕ → Type 0) (at : ℕ) → ((k : ℕ) → k < length old → P k → k < at) → FlagsAdded old new (Until P at) → FlagsAdded old new P
lines_noted old new P at f n = record {
  len = n.len;
  only = λ k q. ⊎_elim (λ (o : get_or old k false ≡ true). inl o) (λ (o : Until P at k). inr o.holds) (n.only k q);
  kept = n.kept;
  all = λ k m q. n.all k m (record { holds = q; before = f k m q });
}

-- the events: none yet, one that flags a line, one that flags none
none_true : (n k : ℕ) → get_or (replicate n false) k false ≡ true → ⊥
none_true n k e = ⊎_elim (λ (h : k < n). true≢false (sym e ∙ get_or-replicate n k false false h))
    (λ (h : n ≤ k). true≢false (sym e ∙ get_or_past (replicate n false) k false (omega (arith, h, length-replicate n false)))) (cases_lt k n)

pub none_noted_by : (n : ℕ) (xs : List Bool) (P : ℕ → ℕ → Type 0) → xs ≡ replicate n false → FlagsOf xs 0 P
none_noted_by n xs P e = record {
  only = λ k q. absurd (none_true n k (sym (ap (λ ys. get_or ys k false) e) ∙ q));
  all = λ i k l. absurd (omega arith);
}

pub one_noted_by : (old new : List Bool) (i : ℕ) (P : ℕ → ℕ → Type 0) (Q : ℕ → Type 0) → ((k : ℕ) → (P i k → Q k) × (Q k → P i k)) → FlagsAdded old new Q → FlagsOf old i P
    → FlagsOf new (i + 1) P
one_noted_by old new i P Q f n b = record {
  only = λ k q. ⊎_elim (λ (o : get_or old k false ≡ true). let w = b.only k o in (w.0, omega (arith, w.1), w.2)) (λ (o : Q k). (i, omega arith, (f k).1 o)) (n.only k q);
  all = λ j k l m p. ⊎_elim (λ (h : j < i). n.kept k (b.all j k h (omega (arith, m, n.len)) p))
      (λ (h : i ≤ j). n.all k (omega (arith, m, n.len)) ((f k).0 (subst (λ x. P x k) (omega (arith, h, l)) p)))
      (cases_lt j i);
}

-- one line is flagged, or none
pub sole_noted : (old : List Bool) (P : ℕ → Type 0) (at : ℕ) → at < length old → P at → ((k : ℕ) → P k → k ≡ at) → FlagsAdded old (set old at true) P
sole_noted old P at l p f = record {
  len = length-set old at true;
  only = λ k q. ⊎_elim (λ (h : k ≡ at). inr (subst P (sym h) p)) (λ (h : k ≢ at). inl (sym (get_or-set_other old at k true false h) ∙ q)) (cases_eq k at);
  kept = λ k q. ⊎_elim (λ (h : k ≡ at). subst (λ j. get_or (set old at true) j false ≡ true) (sym h) (get_or-set_same old at true false l))
      (λ (h : k ≢ at). get_or-set_other old at k true false h ∙ q) (cases_eq k at);
  all = λ k m q. subst (λ j. get_or (set old at true) j false ≡ true) (sym (f k q)) (get_or-set_same old at true false l);
}

pub none_noted : (old : List Bool) (P : ℕ → Type 0) → ((k : ℕ) → P k → ⊥) → FlagsAdded old old P
none_noted old P f = record { len = refl; only = λ k q. inl q; kept = λ k q. q; all = λ k m q. absurd (f k q) }

-- the flags for an equivalent relation
pub noted_as : (old new : List Bool) (P Q : ℕ → Type 0) → ((k : ℕ) → P k → Q k) → ((k : ℕ) → Q k → P k) → FlagsAdded old new P → FlagsAdded old new Q
noted_as old new P Q f g n = record {
  len = n.len;
  only = λ k q. ⊎_elim (λ (o : get_or old k false ≡ true). inl o) (λ (o : P k). inr (f k o)) (n.only k q);
  kept = n.kept;
  all = λ k m q. n.all k m (g k q);
}

-- the flags of the indices below n, step by step
abbrev pub Below : (ℕ → ℕ → Type 0) → ℕ → ℕ → Type 0
Below P n k = (i : ℕ) × (i < n) × P i k

pub none_below : (xs : List Bool) (P : ℕ → ℕ → Type 0) → FlagsAdded xs xs (Below P 0)
none_below xs P = none_noted xs (Below P 0) (λ k w. omega (arith, w.1))

pub one_below : (old mid new : List Bool) (P : ℕ → ℕ → Type 0) (n : ℕ) → FlagsAdded old mid (Below P n) → FlagsAdded mid new (P n) → FlagsAdded old new (Below P (n + 1))
one_below old mid new P n a b = record {
  len = b.len ∙ a.len;
  only = λ k q. ⊎_elim
      (λ (o : get_or mid k false ≡ true). ⊎_elim (λ (e : get_or old k false ≡ true). inl e) (λ (w : Below P n k). inr (w.0, omega (arith, w.1), w.2)) (a.only k o))
      (λ (o : P n k). inr (n, omega arith, o))
      (b.only k q);
  kept = λ k q. b.kept k (a.kept k q);
  all = λ k m w. ⊎_elim (λ (h : w.0 < n). b.kept k (a.all k m (w.0, h, w.2)))
      (λ (h : n ≤ w.0). b.all k (omega (arith, m, a.len)) (subst (λ i. P i k) (omega (arith, h, w.1)) w.2))
      (cases_lt w.0 n);
}

pub all_below : (old new : List Bool) (P : ℕ → ℕ → Type 0) (n : ℕ) → ((i k : ℕ) → P i k → i < n) → FlagsAdded old new (Below P n) → FlagsAdded old new (λ k. (i : ℕ) × P i k)
all_below old new P n f a = noted_as old new (Below P n) (λ k. (i : ℕ) × P i k) (λ k w. (w.0, w.2)) (λ k w. (w.0, f w.0 k w.1, w.1)) a

-- if no line is flagged at first, the flags are exact
pub noted_tells : (n : ℕ) (xs ys : List Bool) (P : ℕ → Type 0) → xs ≡ replicate n false → ((k : ℕ) → P k → k < n) → FlagsAdded xs ys P → ListTells ys P
noted_tells n xs ys P e f a = record {
  only = λ k q. ⊎_elim (λ (o : get_or xs k false ≡ true). absurd (none_true n k (sym (ap (λ zs. get_or zs k false) e) ∙ o))) (λ (o : P k). o) (a.only k q);
  all = λ k p. a.all k (omega (arith, f k p, ap length e, length-replicate n false)) p;
}
