use Rattle.std.proofs.Common.{arith}
use Rattle.yf_forms.proofs.Measure.StepLemmas.{handed_set}
use Rattle.yf_forms.proofs.form.measure.hand.Goals as goal

pub returns-then-count-gt0 : goal.returns-then-count-gt0
returns-then-count-gt0 c =
    handed_set c.args.stack.now.items c.len-count.result c.index_mut.result.now c.add_node.new.collection c.args.node.now (omega (arith, c.len-count.ensures, c.args.stack.now.ok.0)) c.if-count-gt0.true
    c.index_mut.ensures.value c.add_node.ensures
