-- Half of the numbers that are left.
use Rattle.std.proofs.Common.{refl}
use Rattle.yf_parts.specs.Attempts.{FailsAt}
use Rattle.yf_parts.proofs.AttemptLemmas.{above_middle, below_middle, between_all, least_between}
use Rattle.yf_parts.proofs.search.narrowed.Goals as goal

pub loop-low-init : goal.loop-low-init
loop-low-init c = record {
  works = c.requires.works;
  between = between_all (FailsAt c.args.context) c.args.side c.args.attempt.reach _ c.on_side-high.ensures;
}

pub loop-low-preserved-then-halving : goal.loop-low-preserved-then-halving
loop-low-preserved-then-halving c =
    let enough = rw c.if-halving.true at c.in_ok-halving.ensures.reach in
    record {
      works = c.in_ok-halving.ensures.works;
      between = below_middle (FailsAt c.args.context) c.args.side c.args.attempt.reach c.loop-low.low c.loop-low.high
          _ _ _ _ c.loop-low-test.true refl c.with_side-reach.ensures enough c.loop-low.invariant.between;
    }

pub loop-low-preserved : goal.loop-low-preserved
loop-low-preserved c =
    let kept = rw c.if-halving.false at c.in_ok-halving.ensures.reach in
    record {
      works = c.in_ok-halving.ensures.works;
      between = above_middle (FailsAt c.args.context) c.args.side c.args.attempt.reach c.loop-low.low c.loop-low.high
          _ _ _ _ c.loop-low-test.true refl c.with_side-reach.ensures kept
          (c.in_ok-halving.ensures.fails c.if-halving.false) c.loop-low.invariant.between;
    }

pub returns-clause-least : goal.returns-clause-least
returns-clause-least c = least_between (FailsAt c.args.context) c.args.side c.args.attempt.reach c.loop-low.low
    c.loop-low.high _ c.loop-low-test.false c.loop-low.invariant.between
