-- One more range is not touched, or none of the remaining ones.
use Rattle.std.proofs.Common.{◌∙◌, sym, arith}
use Rattle.yf_parts.proofs.TouchedLemmas.{order_next, touched_later, touches_none_later}
use Rattle.yf_parts.proofs.touched.is_touched_from.Goals as goal

pub returns-then-hunk-saturating_sub : goal.returns-then-hunk-saturating_sub
returns-then-hunk-saturating_sub c = sym (touches_none_later c.args.asked.now c.loop-at.at c.args.hunk
    (record { first = 0; last = 0 }) c.loop-at-test.true c.loop-at.invariant.order
    (omega (arith, c.saturating_sub.ensures))) ∙ c.loop-at.invariant.same

pub loop-at-preserved : goal.loop-at-preserved
loop-at-preserved c = record {
  within = omega arith;
  order = order_next c.args.asked.now c.loop-at.at c.args.hunk (record { first = 0; last = 0 }) c.loop-at-test.true
      c.loop-at.invariant.order;
  same = touched_later c.args.asked.now c.loop-at.at c.args.hunk (record { first = 0; last = 0 }) c.loop-at-test.true
      (sym c.meets.ensures ∙ c.if-meets.false) ∙ c.loop-at.invariant.same;
}
