-- The last pattern that matches decides.
use Rattle.std.proofs.Common.{◌≡◌, ℕ, zero, suc, ◌+◌, ◌<◌, ◌≤◌, Bool, true, false, List, [], ◌∷◌, length, drop, get_or, not, ◌-◌, IsTrue, refl, sym, subst, ap, ◌∙◌, arith}
use Rattle.std.proofs.lemmas.List.{drop_all}
use Rattle.yf_excludes.specs.declared.pattern.Pattern.{Pattern}
use Rattle.yf_excludes.specs.Paths.{Lent, Matches}
use Rattle.yf_excludes.specs.Excluded.{NoneMatches, no_pattern, and_not, Excludes, by_this, by_later}
use Rattle.yf_excludes.proofs.SpansLemmas.{drop_next}

none_later : {path : List Lent} {f : Bool} (k : ℕ) {ps : List Pattern} → NoneMatches path f ps
    → NoneMatches path f (drop k ps)
none_later zero n = n
none_later (suc k) no_pattern = no_pattern
none_later (suc k) (and_not _ n) = none_later k n

first_not : {path : List Lent} {f : Bool} {p : Pattern} {ps : List Pattern} → NoneMatches path f (p ∷ ps)
    → Matches p path f → ⊥
first_not (and_not never _) m = never m

none_excludes : {path : List Lent} {f : Bool} {ps : List Pattern} → NoneMatches path f ps → Excludes path f ps → ⊥
none_excludes no_pattern e = elim e [ ]
none_excludes (and_not never _) (by_this m _ _) = never m
none_excludes (and_not _ n) (by_later e) = none_excludes n e

earlier : {path : List Lent} {f : Bool} (k : ℕ) (ps : List Pattern) → Excludes path f (drop k ps) → Excludes path f ps
earlier zero ps e = e
earlier (suc k) [] e = e
earlier (suc k) (p ∷ ps) e = by_later (earlier k ps e)

from_match : {path : List Lent} {f : Bool} (k : ℕ) {p : Pattern} {ps rest : List Pattern}
    → drop k ps ≡ p ∷ rest → Matches p path f → Excludes path f ps → Excludes path f (drop k ps)
from_match zero at m e = e
from_match {path} {f} (suc k) at m (by_this _ _ none) =
    absurd (first_not (subst (λ z. NoneMatches path f z) at (none_later k none)) m)
from_match (suc k) at m (by_later e) = from_match k at m e

decided : {path : List Lent} {f : Bool} {p : Pattern} {rest : List Pattern}
    → NoneMatches path f rest → Excludes path f (p ∷ rest) → p.negated ≡ false
decided none (by_this _ plain _) = plain
decided none (by_later e) = absurd (none_excludes none e)

-- the pattern at an index matches, and none after it
pub excludes_at : {path : List Lent} {f : Bool} (k : ℕ) (p : Pattern) (ps : List Pattern) → k < length ps
    → p ≡ get_or ps k p
    → Matches p path f → NoneMatches path f (drop (k + 1) ps) → p.negated ≡ false → Excludes path f ps
excludes_at {path} {f} k p ps below at m none plain =
    earlier k ps (subst (λ z. Excludes path f z) (sym (drop_next ps k p below at)) (by_this m plain none))

pub includes_at : {path : List Lent} {f : Bool} (k : ℕ) (p : Pattern) (ps : List Pattern) → k < length ps
    → p ≡ get_or ps k p
    → Matches p path f → NoneMatches path f (drop (k + 1) ps) → Excludes path f ps → p.negated ≡ false
includes_at {path} {f} k p ps below at m none e =
    let next = drop_next ps k p below at in
    decided none (subst (λ z. Excludes path f z) next (from_match k next m e))

pub none_from : {path : List Lent} {f : Bool} (k : ℕ) (p : Pattern) (ps : List Pattern) → k < length ps
    → p ≡ get_or ps k p
    → (Matches p path f → ⊥) → NoneMatches path f (drop (k + 1) ps) → NoneMatches path f (drop k ps)
none_from {path} {f} k p ps below at never none = subst (λ z. NoneMatches path f z)
    (sym (drop_next ps k p below at)) (and_not never none)

-- the loop from the last pattern on, after n patterns
pub none_past : (path : List Lent) (f : Bool) (ps : List Pattern) → NoneMatches path f (drop (length ps - 0) ps)
none_past path f ps = let e : drop (length ps - 0) ps ≡ [] = drop_all (length ps - 0) ps (omega arith) in subst
    (λ z. NoneMatches path f z) (sym e) no_pattern

pub none_more : {path : List Lent} {f : Bool} (n at : ℕ) (p : Pattern) (ps : List Pattern) → at + 1 + n ≡ length ps
    → p ≡ get_or ps at p
    → (Matches p path f → ⊥) → NoneMatches path f (drop (length ps - n) ps)
    → NoneMatches path f (drop (length ps - (n + 1)) ps)
none_more {path} {f} n at p ps place is never none =
    let here : at ≡ length ps - (n + 1) = omega arith in
    let behind : length ps - n ≡ at + 1 = omega arith in
    subst (λ z. NoneMatches path f (drop z ps)) here
    (none_from at p ps (omega arith) is never (subst (λ z. NoneMatches path f (drop z ps)) behind none))

from_not : (b : Bool) → not b ≡ true → b ≡ false
from_not true e = absurd (cc)
from_not false e = refl

pub decides : {path : List Lent} {f : Bool} (n at : ℕ) (p : Pattern) (ps : List Pattern) → at + 1 + n ≡ length ps
    → p ≡ get_or ps at p
    → Matches p path f → NoneMatches path f (drop (length ps - n) ps)
    → (not p.negated ≡ true → Excludes path f ps) × (Excludes path f ps → not p.negated ≡ true)
decides {path} {f} n at p ps place is m none =
    let behind : length ps - n ≡ at + 1 = omega arith in
    let after = subst (λ z. NoneMatches path f (drop z ps)) behind none in (
      λ t. excludes_at at p ps (omega arith) is m after (from_not p.negated t),
      λ e. ap not
          (includes_at at p ps (omega arith) is m after e),
    )

pub no_decision : {path : List Lent} {f : Bool} (n : ℕ) (ps : List Pattern) → n ≡ length ps
    → NoneMatches path f (drop (length ps - n) ps)
    → (false ≡ true → Excludes path f ps) × (Excludes path f ps → false ≡ true)
no_decision {path} {f} n ps all none =
    let zero_left : length ps - n ≡ 0 = omega arith in
    (λ t. absurd (cc), λ e. absurd (none_excludes (subst (λ z. NoneMatches path f (drop z ps)) zero_left none) e))
