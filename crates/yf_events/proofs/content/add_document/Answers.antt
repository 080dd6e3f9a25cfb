use Rattle.yf_events.specs.Content.{before_value, items_of_directive}
use Rattle.yf_events.proofs.ContentRuns.{document_begins, one_added, pushed}
use Rattle.yf_events.proofs.content.add_document.Goals as goal

pub loop-directive-init : goal.loop-directive-init
loop-directive-init c =
    document_begins c.args.document.now c.as_slice-directive-items.result.now _ _ c.as_slice-directive-items.ensures (pushed before_value _ _ _ c.in_ok-push.ensures.items)

pub loop-directive-preserved : goal.loop-directive-preserved
loop-directive-preserved c =
    one_added items_of_directive c.as_slice-directive-items.result.now c.loop-directive.directive-index c.directive-item.result _ _ _ c.loop-directive-test.true c.directive-item.is
    c.in_ok-add_directive.ensures c.loop-directive.invariant
