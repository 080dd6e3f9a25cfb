-- No space so far.
use Rattle.std.proofs.Common.{◌≡◌, drop}
use Rattle.yf_diff.specs.Unified.{has_space}
use Rattle.yf_diff.proofs.diff.has_space.Given as goal

abbrev pub invariant-loop-byte : goal.invariant-loop-byte
invariant-loop-byte l = has_space (drop l.byte-index l.name) ≡ has_space l.name
