use Rattle.std.proofs.Common.{◌∙◌, rules}
use Rattle.yf_server.proofs.FoldLemmas.{folds_pushed}
use Rattle.yf_server.proofs.folds.folds_value.Goals as goal

pub loop-fold-preserved : goal.loop-fold-preserved
loop-fold-preserved c = c.in_ok-push_fold.ensures ∙ folds_pushed c.args.table.now c.loop-fold.fold-index
    _ _ (search rules) c.loop-fold.invariant
