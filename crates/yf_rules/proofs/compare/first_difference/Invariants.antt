use Rattle.std.proofs.Common.{◌-◌, length}
use Rattle.yf_rules.specs.Runs.Compare.{SameUpTo}
use Rattle.yf_rules.proofs.compare.first_difference.Given as goal

abbrev pub invariant-loop-next : goal.invariant-loop-next
invariant-loop-next l = SameUpTo l.text l.other l.at

abbrev pub decreases-loop-next : goal.decreases-loop-next
decreases-loop-next l = length l.text - l.at
