-- One more hunk.
use Rattle.std.proofs.Common.{◌∙◌}
use Rattle.yf_parts.specs.Asked.{touched_by}
use Rattle.yf_parts.proofs.TouchedLemmas.{ascend_dropped, before_untouched, map_next}
use Rattle.yf_parts.proofs.touched.touched_in_order.Goals as goal

pub is_touched_from-requires-clause-order : goal.is_touched_from-requires-clause-order
is_touched_from-requires-clause-order c = ascend_dropped c.args.asked.now c.passed_to-from.result c.requires

pub loop-hunk-preserved : goal.loop-hunk-preserved
loop-hunk-preserved c = record {
  within = c.passed_to-from.ensures.within;
  before = c.passed_to-from.ensures.before;
  all = map_next (touched_by c.args.asked.now) c.args.hunks.now c.loop-hunk.hunk-index _ c.loop-hunk.flags.items
      c.push.new.self.items c.is_touched_from.result c.loop-hunk-test.true c.in_ok-push.ensures.items
      (c.is_touched_from.ensures ∙ before_untouched c.args.asked.now c.passed_to-from.result _
      c.passed_to-from.ensures.before) ∙ c.loop-hunk.invariant.all;
}
