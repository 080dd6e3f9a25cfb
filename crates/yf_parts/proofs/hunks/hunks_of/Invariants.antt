-- The hunks so far, and those of the remaining steps.
use Rattle.std.proofs.Common.{◌≡◌, ◌+◌, ◌-◌, ◌≤◌, ◌++◌, length, drop}
use Rattle.std.specs.List.{concat}
use Rattle.std.specs.Prelude.{None}
use Rattle.yf_diff.specs.Script.{news, olds}
use Rattle.yf_parts.specs.Hunks.{hunks_of, origin}
use Rattle.yf_parts.proofs.hunks.hunks_of.Given as goal

abbrev pub invariant-loop-at : goal.invariant-loop-at
invariant-loop-at l = record {
  within : l.at ≤ length l.steps;
  lines : l.now.lines ≤ l.at;
  old : l.now.offset + length (concat (olds (drop l.at l.steps))) ≡ length l.text;
  new : l.now.formatted + length (concat (news (drop l.at l.steps))) ≡ length l.formatted;
  all : l.hunks.items ++ hunks_of l.begun l.now (drop l.at l.steps) ≡ hunks_of None origin l.steps;
}

abbrev pub decreases-loop-at : goal.decreases-loop-at
decreases-loop-at l = length l.steps - l.at
