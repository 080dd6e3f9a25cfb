use Rattle.yf_rules.proofs.Runs.CompareLemmas.{ends_before}
use Rattle.yf_rules.proofs.compare.after_same.Goals as goal

pub returns-in-None : goal.returns-in-None
returns-in-None c = ends_before _ _ _ c.utf8.other c.requires c.in-None.ensures.0 c.in-None.ensures.1
