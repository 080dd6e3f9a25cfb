-- The best attempt so far.
use Rattle.std.proofs.Common.{◌-◌}
use Rattle.yf_parts.specs.Attempts.{FailsAt, Works}
use Rattle.yf_parts.proofs.AttemptLemmas.{Between}
use Rattle.yf_parts.proofs.search.narrowed.Given as goal

abbrev pub invariant-loop-low : goal.invariant-loop-low
invariant-loop-low l = record {
  works : Works l.context l.best;
  between : Between (FailsAt l.context) l.side l.fn.attempt.reach l.low l.high l.best.reach;
}

abbrev pub decreases-loop-low : goal.decreases-loop-low
decreases-loop-low l = l.high - l.low
