-- One more line of the new text.
use Rattle.std.proofs.Common.{refl, ap, ◌∙◌, length, [], arith}
use Rattle.std.proofs.lemmas.List.{get_or_read_under}
use Rattle.yf_diff.specs.Script.{old_part, new_part, is_dropped}
use Rattle.yf_diff.proofs.ScriptLemmas.{old_stays, new_more}
use Rattle.yf_diff.proofs.OrderLemmas.{order_kept}
use Rattle.yf_diff.proofs.script.push_added.Goals as goal

pub loop-index-preserved : goal.loop-index-preserved
loop-index-preserved c =
    let here = c.text.ensures ∙ get_or_read_under c.args.new.now c.loop-index.index (length c.args.new.now) c.index-new-index.result [] c.index-new-index.is (omega arith) refl in
    record {
      within = omega arith;
      old_all = old_stays c.loop-index.steps.items c.push.new.self.items c.new.result c.in_ok-push.ensures.items (ap old_part c.new.ensures) ∙ c.loop-index.invariant.old_all;
      new_all = new_more c.loop-index.steps.items c.push.new.self.items c.new.result c.text.result.now c.args.new.now c.loop-index.index c.in_ok-push.ensures.items (ap new_part c.new.ensures) here (omega arith) ∙ c.loop-index.invariant.new_all;
      order = order_kept c.loop-index.steps.items c.push.new.self.items c.new.result c.in_ok-push.ensures.items (ap is_dropped c.new.ensures) ∙ c.loop-index.invariant.order;
    }
