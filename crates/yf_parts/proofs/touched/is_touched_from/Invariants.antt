-- The hunk touches none of the ranges so far.
use Rattle.std.proofs.Common.{◌≡◌, ◌-◌, ◌≤◌, length, drop, true}
use Rattle.yf_line_ranges.specs.Ranges.{ascend_after}
use Rattle.yf_parts.specs.Asked.{touched_by}
use Rattle.yf_parts.proofs.touched.is_touched_from.Given as goal

abbrev pub invariant-loop-at : goal.invariant-loop-at
invariant-loop-at l = record {
  within : l.at ≤ length l.asked;
  order : ascend_after 0 (drop l.at l.asked) ≡ true;
  same : touched_by (drop l.at l.asked) l.hunk ≡ touched_by (drop l.from l.asked) l.hunk;
}

abbrev pub decreases-loop-at : goal.decreases-loop-at
decreases-loop-at l = length l.asked - l.at
