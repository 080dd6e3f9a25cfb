-- The ranges so far are in order.
use Rattle.std.proofs.Common.{◌≡◌, drop}
use Rattle.yf_line_ranges.specs.Ranges.{ascend_after}
use Rattle.yf_parts.proofs.touched.ascend.Given as goal

abbrev pub invariant-loop-range : goal.invariant-loop-range
invariant-loop-range l = ascend_after l.first (drop l.range-index l.asked) ≡ ascend_after 0 l.asked
