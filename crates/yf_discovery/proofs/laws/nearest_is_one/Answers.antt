use Rattle.yf_discovery.proofs.OneDiscoveryLemmas.{one_discovery}
use Rattle.yf_discovery.proofs.laws.nearest_is_one.Goals as goal

pub returns : goal.returns
returns c = one_discovery
