use Rattle.std.proofs.Common.{◌≤◌, length}
use Rattle.yf_rule_sets.proofs.facts.line_starts.begun_back.Given as goal

abbrev pub invariant-loop-at : goal.invariant-loop-at
invariant-loop-at l = l.at ≤ length l.src.lines

abbrev pub decreases-loop-at : goal.decreases-loop-at
decreases-loop-at l = l.at
