-- The tries so far fail.
use Rattle.std.proofs.Common.{◌-◌, length}
use Rattle.yf_parts.specs.Attempts.{FailsAt}
use Rattle.yf_parts.specs.Tries.{Tried}
use Rattle.yf_parts.proofs.search.doubled.Given as goal

abbrev pub invariant-loop-radius : goal.invariant-loop-radius
invariant-loop-radius l = Tried (FailsAt l.context) l.radius

abbrev pub decreases-loop-radius : goal.decreases-loop-radius
decreases-loop-radius l = length l.context.hunks.now - l.radius
