-- None of the ranges so far is touched.
use Rattle.std.proofs.Common.{◌≡◌, drop}
use Rattle.yf_parts.specs.Asked.{touched_by}
use Rattle.yf_parts.proofs.asked.is_touched.Given as goal

abbrev pub invariant-loop-range : goal.invariant-loop-range
invariant-loop-range l = touched_by (drop l.range-index l.asked) l.hunk ≡ touched_by l.asked l.hunk
