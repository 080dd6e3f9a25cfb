-- The flags so far, and the remaining ones.
use Rattle.std.proofs.Common.{◌≡◌, ◌-◌, ◌≤◌, ◌++◌, length, drop}
use Rattle.yf_parts.specs.Tries.{near_all}
use Rattle.yf_parts.proofs.candidates.chosen.Given as goal

abbrev pub invariant-loop-index : goal.invariant-loop-index
invariant-loop-index l = record {
  within : l.index ≤ length l.flags;
  all : l.chosen.items ++ near_all l.reach l.flags l.index (drop l.index l.flags)
      ≡ near_all l.reach l.flags 0 l.flags;
}

abbrev pub decreases-loop-index : goal.decreases-loop-index
decreases-loop-index l = length l.flags - l.index
