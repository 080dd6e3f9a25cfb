use Rattle.std.proofs.Common.{ℕ, ◌-◌, ◌<◌, ◌≤◌, length}
use Rattle.yf_stream.specs.LeafSearch.{BegunAt}
use Rattle.yf_stream.proofs.leaf_lines.begun_before.Given as goal

abbrev pub invariant-events : goal.invariant-events
invariant-events l = record {
  later : l.start ≤ l.at;
  begun : (k : ℕ) → l.start ≤ k → k < l.at → BegunAt l.offset l.events k;
}

abbrev pub decreases-events : goal.decreases-events
decreases-events l = length l.events - l.at
