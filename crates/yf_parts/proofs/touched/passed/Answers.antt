-- One more range ends before the line.
use Rattle.std.proofs.Common.{◌+◌, arith}
use Rattle.yf_parts.proofs.TouchedLemmas.{before_next}
use Rattle.yf_parts.proofs.touched.passed.Goals as goal

pub loop-at-preserved : goal.loop-at-preserved
loop-at-preserved c = record {
  within = omega arith;
  before = before_next c.args.asked.now c.loop-at.at (c.loop-at.at + 1) c.args.line (record { first = 0; last = 0 })
      c.loop-at-test.true (omega arith) c.loop-at.invariant.before (omega arith);
}
