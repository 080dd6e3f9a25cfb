-- None of the flags so far is set.
use Rattle.std.proofs.Common.{◌≡◌, drop}
use Rattle.yf_parts.specs.Asked.{has_true}
use Rattle.yf_parts.proofs.asked.has_true.Given as goal

abbrev pub invariant-loop-flag : goal.invariant-loop-flag
invariant-loop-flag l = has_true (drop l.flag-index l.flags) ≡ has_true l.flags
