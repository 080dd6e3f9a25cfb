use Rattle.yf_types.proofs.DecidedLemmas.{decided}
use Rattle.yf_types.proofs.agreement.tests_decide_patterns.Goals as goal

pub returns : goal.returns
returns c = decided
