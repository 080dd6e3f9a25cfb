use Rattle.yf_server.proofs.FoldLemmas.{folds_made}
use Rattle.yf_server.proofs.folds.folds_by.Goals as goal

pub returns : goal.returns
returns c = folds_made c.args.document.now c.args.parts.now c.in_ok-table.table.items c.as_slice.result.now
    c.folds_value.result c.as_slice.ensures.value c.in_ok-table.ensures.count c.in_ok-table.ensures.longest
    c.folds_value.ensures
