-- The text so far, and the result of the remaining hunks on the rest.
use Rattle.std.proofs.Common.{◌≡◌, ◌-◌, ◌≤◌, ◌++◌, length, drop}
use Rattle.yf_parts.specs.Hunks.{Fits, spliced}
use Rattle.yf_parts.proofs.splice.spliced.Given as goal

abbrev pub invariant-loop-k : goal.invariant-loop-k
invariant-loop-k l = record {
  within : l.k ≤ length l.hunks;
  fits : Fits (length l.text) (length l.formatted) l.at (drop l.k l.hunks);
  all : l.out.items ++ spliced l.text l.formatted (drop l.k l.hunks) (drop l.k l.applied) l.at
      ≡ spliced l.text l.formatted l.hunks l.applied 0;
}

abbrev pub decreases-loop-k : goal.decreases-loop-k
decreases-loop-k l = length l.hunks - l.k
