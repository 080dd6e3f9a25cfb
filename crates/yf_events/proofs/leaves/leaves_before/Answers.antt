use Rattle.std.proofs.Common.{cond, add-one, ap, ◌∙◌, arith}
use Rattle.yf_events.proofs.LeafRuns.{at_most_one, one_more}
use Rattle.yf_events.proofs.leaves.leaves_before.Goals as goal

pub loop-i-preserved : goal.loop-i-preserved
loop-i-preserved c = (
  omega (arith, c.one_if-count.ensures, at_most_one c.begins_before.result, c.loop-i.invariant.0),
  rw add-one (one_more c.args.events.now c.loop-i.i c.args.offset _ c.loop-i.count c.one_if-count.result (omega (arith, c.len-i-end.ensures, c.loop-i-test.true))
      (c.one_if-count.ensures ∙ ap (λ b. cond b 1 0) c.begins_before.ensures) c.loop-i.invariant.1),
)
