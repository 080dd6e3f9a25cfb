use Rattle.std.proofs.Common.{◌≡◌, ℕ, ◌+◌, ◌<◌, ◌≤◌, false, get_or}
use Rattle.std.specs.Ordering.{is_lt}
use Rattle.yf_rules.specs.Check.{key_cmp, sort_key}
use Rattle.yf_rules.specs.declared.finding.Finding.{Finding}
use Rattle.yf_rules.proofs.check.are_sorted.Given as goal

abbrev pub invariant-loop-k : goal.invariant-loop-k
invariant-loop-k l = record {
  from : 1 ≤ l.k;
  sorted : (j : ℕ) (d : Finding) → j + 1 < l.k → is_lt (key_cmp (sort_key (get_or l.findings (j + 1) d)) (sort_key (get_or l.findings j d))) ≡ false;
}
