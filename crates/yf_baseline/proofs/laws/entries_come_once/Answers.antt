use Rattle.yf_baseline.proofs.OnceLemmas.{entries_come_once}
use Rattle.yf_baseline.proofs.laws.entries_come_once.Goals as goal

pub returns : goal.returns
returns c = entries_come_once
