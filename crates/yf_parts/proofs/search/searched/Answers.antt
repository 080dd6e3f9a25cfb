-- Both sides, one after the other.
use Rattle.yf_parts.specs.Attempts.{FailsAt}
use Rattle.yf_parts.proofs.AttemptLemmas.{narrowed_twice}
use Rattle.yf_parts.proofs.search.searched.Goals as goal

pub returns : goal.returns
returns c = record {
  works = c.in_ok-second.ensures.works;
  radius = c.in_ok-attempt.attempt.reach.before;
  tried = c.in_ok-attempt.ensures.tried;
  narrowed = narrowed_twice (FailsAt c.args.context) c.in_ok-attempt.attempt.reach.before c.in_ok-attempt.attempt.reach
      c.in_ok-first.first.reach c.in_ok-second.second.reach c.in_ok-attempt.ensures.reach c.in_ok-first.ensures.least
      c.in_ok-second.ensures.least;
}
