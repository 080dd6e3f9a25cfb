use Rattle.std.proofs.Common.{sym, ◌∙◌}
use Rattle.yf_server.proofs.ParameterLemmas.{changes_begin, changes_end, changes_more, changes_none}
use Rattle.yf_server.proofs.parameters.changes_of.Goals as goal

pub loop-value-init : goal.loop-value-init
loop-value-init c = changes_begin c.args.values.now c.new-changes.result.items c.new-changes.ensures.items

pub loop-value-preserved : goal.loop-value-preserved
loop-value-preserved c = changes_more c.args.values.now c.loop-value.value-index c.value-item.result c.in-Some.change
    c.loop-value.changes.items c.push_change.new.changes.items _ c.loop-value-test.true c.value-item.is
    (sym c.in-Some.is ∙ c.change_of.ensures) c.in_ok-push_change-in-Some.ensures c.loop-value.invariant

pub returns-in-None : goal.returns-in-None
returns-in-None c = changes_none c.args.values.now c.loop-value.value-index c.value-item.result
    c.loop-value.changes.items _ c.loop-value-test.true c.value-item.is (sym c.in-None.is ∙ c.change_of.ensures)
    c.loop-value.invariant

pub returns : goal.returns
returns c = changes_end c.args.values.now c.loop-value.value-index c.loop-value.changes.items _ c.loop-value-test.false
    c.loop-value.invariant
