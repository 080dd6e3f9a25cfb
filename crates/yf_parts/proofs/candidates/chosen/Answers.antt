-- One more flag.
use Rattle.std.proofs.Common.{◌∙◌, arith}
use Rattle.yf_parts.proofs.TryLemmas.{near_next}
use Rattle.yf_parts.proofs.candidates.chosen.Goals as goal

pub loop-index-preserved : goal.loop-index-preserved
loop-index-preserved c = record {
  within = omega arith;
  all = near_next c.args.reach c.args.flags.now c.loop-index.index c.loop-index.chosen.items c.push.new.self.items
      c.is_near.result
      c.loop-index-test.true c.in_ok-push.ensures.items c.is_near.ensures ∙ c.loop-index.invariant.all;
}
