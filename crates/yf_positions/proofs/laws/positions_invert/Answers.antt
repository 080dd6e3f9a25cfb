use Rattle.yf_positions.proofs.InverseLemmas.{positions_invert}
use Rattle.yf_positions.proofs.laws.positions_invert.Goals as goal

pub returns : goal.returns
returns c = positions_invert
