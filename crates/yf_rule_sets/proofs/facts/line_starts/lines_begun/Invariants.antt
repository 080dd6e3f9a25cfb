use Rattle.std.proofs.Common.{◌-◌, length}
use Rattle.yf_rule_sets.specs.RuleSets.Scalars.{BegunTo}
use Rattle.yf_rule_sets.proofs.facts.line_starts.lines_begun.Given as goal

abbrev pub invariant-loop-at : goal.invariant-loop-at
invariant-loop-at l = BegunTo l.src.lines l.offset l.at

abbrev pub decreases-loop-at : goal.decreases-loop-at
decreases-loop-at l = length l.src.lines - l.at
