use Rattle.yf_findings.proofs.StatisticsLemmas.{more_blanks, no_blanks}
use Rattle.yf_findings.proofs.statistics.push_blanks.Goals as goal

pub loop-init : goal.loop-init
loop-init c = no_blanks _

pub loop-preserved : goal.loop-preserved
loop-preserved c = more_blanks _ _ _ _ c.loop.invariant c.in_ok-push.ensures.items
