-- The changes of the hunks so far, and the remaining hunks.
use Rattle.std.proofs.Common.{◌-◌, ◌≤◌, length, drop, take}
use Rattle.yf_findings.specs.Changes.{AreCut, ChangesOf}
use Rattle.yf_findings.proofs.changes.changes_of.Given as goal

abbrev pub invariant-loop-k : goal.invariant-loop-k
invariant-loop-k l = record {
  within : l.k ≤ length l.hunks;
  cut : AreCut l.src.text l.formatted (drop l.k l.hunks);
  changes : ChangesOf l.src.text l.formatted (take l.k l.hunks) l.changes.items;
}

abbrev pub decreases-loop-k : goal.decreases-loop-k
decreases-loop-k l = length l.hunks - l.k
