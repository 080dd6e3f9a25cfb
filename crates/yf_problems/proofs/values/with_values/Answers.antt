use Rattle.std.proofs.Common.{rules}
use Rattle.yf_problems.proofs.ProblemLemmas.{all_shown, none_are_shown, shown_more}
use Rattle.yf_problems.proofs.values.with_values.Goals as goal

pub loop-detail-init : goal.loop-detail-init
loop-detail-init c = λ reading style k. none_are_shown c.args.rule c.args.src.now reading style c.args.details.now _
    c.new-shown.ensures.items

pub loop-detail-preserved : goal.loop-detail-preserved
loop-detail-preserved c = λ reading style k. shown_more c.args.rule c.args.src.now reading style c.args.details.now
    c.loop-detail.shown.items _ c.loop-detail.detail-index _ c.with_value.result c.loop-detail-test.true (search rules)
    (c.with_value.ensures reading style k) c.in_ok-push.ensures.items (c.loop-detail.invariant reading style k)

pub returns : goal.returns
returns c = λ reading style k. all_shown c.args.rule c.args.src.now reading style c.args.details.now
    c.loop-detail.shown.items c.loop-detail.detail-index c.loop-detail-test.false
    (c.loop-detail.invariant reading style k)
