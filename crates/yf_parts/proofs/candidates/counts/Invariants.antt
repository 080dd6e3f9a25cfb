-- The counts so far, and the remaining ones.
use Rattle.std.proofs.Common.{◌≡◌, ◌≤◌, ◌++◌, drop}
use Rattle.yf_parts.specs.Tries.{counts_from}
use Rattle.yf_parts.proofs.candidates.counts.Given as goal

abbrev pub invariant-loop-flag : goal.invariant-loop-flag
invariant-loop-flag l = record {
  bound : l.count ≤ l.flag-index;
  all : l.counts.items ++ counts_from l.count (drop l.flag-index l.flags) ≡ counts_from 0 l.flags;
}
