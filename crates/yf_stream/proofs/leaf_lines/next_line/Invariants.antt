use Rattle.std.proofs.Common.{◌-◌, ◌≤◌, length}
use Rattle.yf_stream.specs.LeafPass.{NoBreakFrom}
use Rattle.yf_stream.proofs.leaf_lines.next_line.Given as goal

abbrev pub invariant-chars : goal.invariant-chars
invariant-chars l = record { order : l.at ≤ l.end; none : NoBreakFrom l.text l.at l.end }

abbrev pub decreases-chars : goal.decreases-chars
decreases-chars l = length l.text - l.end
