-- One more problem of one more finding.
use Rattle.std.proofs.Common.{◌≡◌, ℕ, ◌+◌, ◌<◌, ◌≤◌, List, [], ◌∷◌, ◌++◌, length, take, get_or, sym, subst}
use Rattle.std.proofs.lemmas.List.{take_all, take_more}
use Rattle.yf_findings.specs.Problems.{EachProblem}
use Rattle.yf_findings.specs.Problems.EachProblem.{no_finding, one_more}
use Rattle.yf_findings.specs.declared.owned.OwnedProblem.{OwnedProblem}
use Rattle.yf_rules.specs.declared.finding.Finding.{Finding}

pub no_problems : (R : Finding → OwnedProblem → Type 0) (ps : List OwnedProblem) → ps ≡ [] → EachProblem R [] ps
no_problems R ps e = subst (EachProblem R []) (sym e) no_finding

pub more_problems : (R : Finding → OwnedProblem → Type 0) (fs : List Finding) (k : ℕ) (d : Finding) (ps qs : List OwnedProblem) (p : OwnedProblem)
    → k < length fs → EachProblem R (take k fs) ps → R (get_or fs k d) p → qs ≡ ps ++ p ∷ [] → EachProblem R (take (k + 1) fs) qs
more_problems R fs k d ps qs p h each r e =
    subst (λ x. EachProblem R x qs) (sym (take_more fs k d h))
    (subst (EachProblem R (take k fs ++ get_or fs k d ∷ [])) (sym e) (one_more each r))

pub all_problems : (R : Finding → OwnedProblem → Type 0) (fs : List Finding) (k : ℕ) (ps : List OwnedProblem) → length fs ≤ k
    → EachProblem R (take k fs) ps → EachProblem R fs ps
all_problems R fs k ps h each = subst (λ (x : List Finding). EachProblem R x ps) (take_all k fs h) each
