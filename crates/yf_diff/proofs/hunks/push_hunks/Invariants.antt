-- The written text and the text still to be written are the whole text.
use Rattle.std.proofs.Common.{◌≡◌, ◌++◌, ◌-◌, ◌≤◌, length, drop}
use Rattle.yf_diff.specs.Unified.{hunks}
use Rattle.yf_diff.proofs.hunks.push_hunks.Given as goal

abbrev pub invariant-loop-at : goal.invariant-loop-at
invariant-loop-at l = record {
  within : l.at ≤ length l.steps;
  old_bound : l.old_before ≤ l.at;
  new_bound : l.new_before ≤ l.at;
  all : l.out.items ++ hunks l.steps l.at l.old_before l.new_before (drop l.at l.steps) ≡ l.initial.out.items ++ hunks l.steps 0 0 0 l.steps;
}

abbrev pub decreases-loop-at : goal.decreases-loop-at
decreases-loop-at l = length l.steps - l.at
