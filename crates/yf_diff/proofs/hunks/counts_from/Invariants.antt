-- The counted lines and the rest of the hunk are the whole hunk.
use Rattle.std.proofs.Common.{◌≡◌, ◌+◌, ◌-◌, ◌≤◌, length, drop}
use Rattle.yf_diff.specs.Script.{olds, news}
use Rattle.yf_diff.specs.Unified.{hunk}
use Rattle.yf_diff.proofs.hunks.counts_from.Given as goal

abbrev pub invariant-loop-at : goal.invariant-loop-at
invariant-loop-at l = record {
  within : l.at ≤ length l.steps;
  old_bound : l.old ≤ l.at;
  new_bound : l.new ≤ l.at;
  old_all : l.old + length (olds (hunk l.steps l.at (drop l.at l.steps))) ≡ length (olds (hunk l.steps l.first (drop l.first l.steps)));
  new_all : l.new + length (news (hunk l.steps l.at (drop l.at l.steps))) ≡ length (news (hunk l.steps l.first (drop l.first l.steps)));
}

abbrev pub decreases-loop-at : goal.decreases-loop-at
decreases-loop-at l = length l.steps - l.at
