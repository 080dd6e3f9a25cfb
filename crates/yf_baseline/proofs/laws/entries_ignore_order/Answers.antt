use Rattle.yf_baseline.proofs.OrderLemmas.{entries_ignore_order}
use Rattle.yf_baseline.proofs.laws.entries_ignore_order.Goals as goal

pub returns : goal.returns
returns c = entries_ignore_order
