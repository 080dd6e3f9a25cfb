use Rattle.yf_events.specs.Content.{items_of_document}
use Rattle.yf_events.proofs.ContentRuns.{one_added}
use Rattle.yf_events.proofs.content.directives.Goals as goal

pub loop-document-preserved : goal.loop-document-preserved
loop-document-preserved c =
    one_added items_of_document c.args.documents.now c.loop-document.document-index c.document-item.result _ _ _ c.loop-document-test.true c.document-item.is
    c.in_ok-add_document.ensures c.loop-document.invariant
