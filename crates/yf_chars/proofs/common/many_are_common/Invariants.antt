use Rattle.std.proofs.Common.{◌-◌, ◌≤◌, length}
use Rattle.yf_chars.specs.CommonParts.{CommonBetween}
use Rattle.yf_chars.proofs.common.many_are_common.Given as goal

abbrev pub invariant-loop-at : goal.invariant-loop-at
invariant-loop-at l = (l.at ≤ length l.text) × CommonBetween l.text 0 l.at

abbrev pub decreases-loop-at : goal.decreases-loop-at
decreases-loop-at l = length l.text - l.at
