use Rattle.yf_positions.proofs.ExactLemmas.{offsets_exact}
use Rattle.yf_positions.proofs.laws.offsets_are_exact.Goals as goal

pub returns : goal.returns
returns c = offsets_exact
