use Rattle.std.proofs.Common.{reverse}
use Rattle.yf_forms.proofs.Measure.StepLemmas.{leaf_added}
use Rattle.yf_forms.proofs.form.measure.add_leaf.Goals as goal

pub returns : goal.returns
returns c = λ long.
    leaf_added c.args.list.now c.push.new.self c.args.i c.args.node.now (reverse c.args.stack.now.items) (reverse c.hand.new.stack.items) long
    c.in_ok-push.ensures c.hand.ensures
