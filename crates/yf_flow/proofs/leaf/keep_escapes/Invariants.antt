use Rattle.std.proofs.Common.{◌≡◌, ◌-◌, ◌++◌, drop, length}
use Rattle.yf_flow.proofs.leaf.keep_escapes.Given as goal

abbrev pub invariant-offsets : goal.invariant-offsets
invariant-offsets l = l.escapes ++ drop l.at l.offsets ≡ l.initial.escapes ++ l.offsets

abbrev pub decreases-offsets : goal.decreases-offsets
decreases-offsets l = length l.offsets - l.at
