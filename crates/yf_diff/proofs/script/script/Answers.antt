-- One more step: a line of the old text or of both is passed.
use Rattle.std.proofs.Common.{refl, ap, ◌∙◌, ◌++◌, length, drop, [], arith}
use Rattle.std.proofs.lemmas.List.{get_or_read_under}
use Rattle.yf_diff.specs.Script.{old_part, new_part, is_dropped, is_added}
use Rattle.yf_diff.proofs.ScriptLemmas.{old_passed, new_passed, new_stays}
use Rattle.yf_diff.proofs.OrderLemmas.{order_kept, order_dropped, last_made}
use Rattle.yf_diff.proofs.script.script.Goals as goal

pub loop-i-preserved-in-Kept : goal.loop-i-preserved-in-Kept
loop-i-preserved-in-Kept c =
    let here = c.text.ensures ∙ get_or_read_under c.args.old.now c.loop-i.i (length c.args.old.now) c.index-old-i.result [] c.index-old-i.is c.in-Kept.ensures.in_old refl in
    let items = c.in_ok-push-in-Kept.ensures.items in
    let done = c.push_added.new.steps.items in
    record {
      in_old = omega (arith, c.in-Kept.ensures.in_old);
      in_new = omega (arith, c.in-Kept.ensures.in_new);
      from_j = omega arith;
      old_all = old_passed done c.push.new.self.items c.new-in-Kept.result c.text.result.now c.args.old.now c.loop-i.i items (ap old_part c.new-in-Kept.ensures) here c.in-Kept.ensures.in_old (ap (λ z. z ++ drop c.loop-i.i c.args.old.now) c.in_ok-push_added-in-Kept.ensures.olds ∙ c.loop-i.invariant.old_all);
      new_all = new_passed done c.push.new.self.items c.new-in-Kept.result c.text.result.now c.args.new.now c.loop-i.j items (ap new_part c.new-in-Kept.ensures) (here ∙ c.in-Kept.ensures.same) c.in-Kept.ensures.in_new (c.in_ok-push_added-in-Kept.ensures.news ∙ c.loop-i.invariant.new_all);
      order = order_kept done c.push.new.self.items c.new-in-Kept.result items (ap is_dropped c.new-in-Kept.ensures) ∙ c.in_ok-push_added-in-Kept.ensures.order ∙ c.loop-i.invariant.order;
      last = last_made done c.push.new.self.items c.new-in-Kept.result items (ap is_added c.new-in-Kept.ensures);
    }

pub loop-i-preserved-in-Dropped : goal.loop-i-preserved-in-Dropped
loop-i-preserved-in-Dropped c =
    let here = c.text-in-Dropped.ensures ∙ get_or_read_under c.args.old.now c.loop-i.i (length c.args.old.now) c.index-old-i-in-Dropped.result [] c.index-old-i-in-Dropped.is c.in-Dropped.ensures refl in
    let items = c.in_ok-push-in-Dropped.ensures.items in
    record {
      in_old = omega (arith, c.in-Dropped.ensures);
      in_new = omega arith;
      from_j = omega arith;
      old_all = old_passed c.loop-i.steps.items c.push-in-Dropped.new.self.items c.new-in-Dropped.result c.text-in-Dropped.result.now c.args.old.now c.loop-i.i items (ap old_part c.new-in-Dropped.ensures) here c.in-Dropped.ensures c.loop-i.invariant.old_all;
      new_all = new_stays c.loop-i.steps.items c.push-in-Dropped.new.self.items c.new-in-Dropped.result c.args.new.now c.loop-i.from items (ap new_part c.new-in-Dropped.ensures) c.loop-i.invariant.new_all;
      order = order_dropped c.loop-i.steps.items c.push-in-Dropped.new.self.items c.new-in-Dropped.result items c.loop-i.invariant.last ∙ c.loop-i.invariant.order;
      last = last_made c.loop-i.steps.items c.push-in-Dropped.new.self.items c.new-in-Dropped.result items (ap is_added c.new-in-Dropped.ensures);
    }
