use Rattle.std.proofs.lemmas.List.Filters.{dedup_is}
use Rattle.std.proofs.lemmas.List.Kept.{IsStrictlySortedBy-dedup, Contains-dedup, Contains-from_dedup}
use Rattle.std.proofs.lemmas.List.Sorted.{Contains-permutation, IsPermutation-sym, answers_always}
use Rattle.std.proofs.Common.{rules}
use Rattle.yf_rule_sets.proofs.Findings.PlacesLemmas.{place_total, place_ties, same_equivalence, same_is}
use Rattle.yf_rules.proofs.rule.ascend.Goals as goal

pub returns-clause-ascending : goal.returns-clause-ascending
returns-clause-ascending c =
    rw (dedup_is _ _ _ c.dedup.ensures.filtered)
    (IsStrictlySortedBy-dedup place_total place_ties _ (c.sort_unstable_by_key.ensures.sorted (λ p. (p.line, p.column)) (answers_always _ _ _ (λ f a r g h. search rules))))

pub returns-clause-places : goal.returns-clause-places
returns-clause-places c = λ t os h. record {
  only = λ p there. h.only p
      (Contains-permutation _ _ p (IsPermutation-sym _ _ c.sort_unstable_by_key.ensures.permutation) (Contains-from_dedup _ _ p (rw (dedup_is _ _ _ c.dedup.ensures.filtered) at there)));
  all = λ p is.
      rw (dedup_is _ _ _ c.dedup.ensures.filtered)
      (Contains-dedup same_equivalence same_is _ p (Contains-permutation _ _ p c.sort_unstable_by_key.ensures.permutation (h.all p is)));
}
