use Rattle.yf_explain.proofs.SourceLemmas.{more_spaces, no_spaces}
use Rattle.yf_explain.proofs.source.push_spaces.Goals as goal

pub loop-init : goal.loop-init
loop-init c = no_spaces _

pub loop-preserved : goal.loop-preserved
loop-preserved c = more_spaces _ _ _ _ c.loop.invariant c.in_ok-push_signs.ensures
