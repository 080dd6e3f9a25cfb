-- Lists of patterns that are read one after another.
use Rattle.std.proofs.Common.{◌≡◌, ℕ, zero, suc, ◌+◌, ◌<◌, List, [], ◌∷◌, ◌++◌, length, drop, get_or, sym, subst, arith, append_assoc}
use Rattle.std.proofs.lemmas.List.{append-nil, drop_all, get_or_default}
use Rattle.yf_excludes.specs.declared.pattern.Pattern.{Pattern}
use Rattle.yf_excludes.specs.Paths.{Lent}
use Rattle.yf_excludes.specs.Segments.{PatternOf}
use Rattle.yf_excludes.specs.Patterns.{ArePatterns, no_text, one_text, FirstBad, bad_here, bad_later}
use Rattle.yf_excludes.proofs.SpansLemmas.{drop_next}

pub record PatternsSoFar (ts : List Lent) (ps : List Pattern) (n : ℕ) : Type 0 where
  pub forth : (more : List Pattern) → ArePatterns (drop n ts) more → ArePatterns ts (ps ++ more)
  pub bad : (m : ℕ) → FirstBad (drop n ts) m → FirstBad ts (n + m)

pub patterns_begin : (ts : List Lent) → PatternsSoFar ts [] 0
patterns_begin ts = record {
  forth = λ more a. a;
  bad = λ m b. let e : m ≡ 0 + m = omega arith in subst (λ z. FirstBad ts z) e b;
}

pub patterns_more : {ts : List Lent} {ps : List Pattern} {n : ℕ} (t : Lent) {p : Pattern} → PatternsSoFar ts ps n
    → n < length ts
    → t ≡ get_or ts n t → PatternOf t.now p → PatternsSoFar ts (ps ++ p ∷ []) (n + 1)
patterns_more {ts} {ps} {n} t {p} s below is read =
    let item = drop_next ts n t below is in
    record {
      forth = λ more a. subst (λ z. ArePatterns ts z) (sym (append_assoc ps (p ∷ []) more))
          (s.forth (p ∷ more) (subst (λ z. ArePatterns z (p ∷ more)) (sym item) (one_text read a)));
      bad = λ m b. let e : n + suc m ≡ n + 1 + m = omega arith in
          subst (λ z. FirstBad ts z) e (s.bad (suc m) (subst (λ z. FirstBad z (suc m)) (sym item) (bad_later read b)));
    }

pub patterns_done : {ts : List Lent} {ps : List Pattern} {n : ℕ} → PatternsSoFar ts ps n → n ≡ length ts
    → ArePatterns ts ps
patterns_done {ts} {ps} {n} s all =
    let none : drop n ts ≡ [] = drop_all n ts (omega arith) in
    subst (λ z. ArePatterns ts z) (append-nil ps) (s.forth [] (subst (λ z. ArePatterns z []) (sym none) no_text))

pub patterns_bad : {ts : List Lent} {ps : List Pattern} {n : ℕ} (t : Lent) → PatternsSoFar ts ps n → n < length ts
    → t ≡ get_or ts n t → ((p : Pattern) → PatternOf t.now p → ⊥) → FirstBad ts n
patterns_bad {ts} {ps} {n} t s below is never =
    let e : n + 0 ≡ n = omega arith in
    subst (λ z. FirstBad ts z) e (s.bad 0 (subst (λ z. FirstBad z 0) (sym (drop_next ts n t below is))
    (bad_here never)))

-- that list, by the element at an index with any default
pub patterns_more_at : {ts : List Lent} {ps after : List Pattern} {n : ℕ} (d : Lent) {p : Pattern}
    → PatternsSoFar ts ps n → n < length ts
    → PatternOf (get_or ts n d).now p → after ≡ ps ++ p ∷ [] → PatternsSoFar ts after (n + 1)
patterns_more_at {ts} {ps} {n = n} d {p} s below read e =
    subst (λ z. PatternsSoFar ts z (n + 1)) (sym e)
    (patterns_more (get_or ts n d) s below (get_or_default ts n d (get_or ts n d) below) read)

pub patterns_bad_at : {ts : List Lent} {ps : List Pattern} {n : ℕ} (d : Lent) → PatternsSoFar ts ps n → n < length ts
    → ((p : Pattern) → PatternOf (get_or ts n d).now p → ⊥) → FirstBad ts n
patterns_bad_at {ts} {n = n} d s below never = patterns_bad (get_or ts n d) s below
    (get_or_default ts n d (get_or ts n d) below) never
