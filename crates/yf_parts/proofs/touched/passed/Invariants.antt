-- The ranges so far end before the line.
use Rattle.std.proofs.Common.{◌≡◌, ◌-◌, ◌≤◌, length, take, true}
use Rattle.yf_line_ranges.specs.Ranges.{all_before}
use Rattle.yf_parts.proofs.touched.passed.Given as goal

abbrev pub invariant-loop-at : goal.invariant-loop-at
invariant-loop-at l = record {
  within : l.at ≤ length l.asked;
  before : all_before (take l.at l.asked) l.line ≡ true;
}

abbrev pub decreases-loop-at : goal.decreases-loop-at
decreases-loop-at l = length l.asked - l.at
