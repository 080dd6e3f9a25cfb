use Rattle.std.proofs.Common.{◌≡◌, ◌≤◌, ◌+◌, ◌-◌, drop, length}
use Rattle.yf_rule_sets.specs.RuleSets.Scalars.{head_count}
use Rattle.yf_rule_sets.proofs.facts.scalars.count_from.Given as goal

abbrev pub invariant-loop-at : goal.invariant-loop-at
invariant-loop-at l = record {
  order : l.from ≤ l.at;
  count : head_count l.byte (drop l.from l.bytes) ≡ l.at - l.from + head_count l.byte (drop l.at l.bytes);
}

abbrev pub decreases-loop-at : goal.decreases-loop-at
decreases-loop-at l = length l.bytes - l.at
