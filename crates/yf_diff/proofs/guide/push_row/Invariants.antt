-- Within the lines.
use Rattle.std.proofs.Common.{◌≤◌, length}
use Rattle.yf_diff.proofs.guide.push_row.Given as goal

abbrev pub invariant-loop-left : goal.invariant-loop-left
invariant-loop-left l = l.left ≤ length l.new

abbrev pub decreases-loop-left : goal.decreases-loop-left
decreases-loop-left l = l.left
