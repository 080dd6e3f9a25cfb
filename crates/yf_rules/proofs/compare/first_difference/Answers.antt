use Rattle.yf_rules.proofs.Runs.CompareLemmas.{at_start}
use Rattle.yf_rules.proofs.compare.first_difference.Goals as goal

pub loop-next-init : goal.loop-next-init
loop-next-init c = at_start _ _ c.utf8.text c.utf8.other
