-- By induction over the script.
use Rattle.yf_diff.proofs.AppliedLemmas.{scripts_applied}
use Rattle.yf_diff.proofs.laws.scripts_apply.Goals as goal

pub returns : goal.returns
returns c = scripts_applied
