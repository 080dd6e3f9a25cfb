use Rattle.yf_positions.proofs.InverseLemmas.{offsets_invert}
use Rattle.yf_positions.proofs.laws.offsets_invert.Goals as goal

pub returns : goal.returns
returns c = offsets_invert
