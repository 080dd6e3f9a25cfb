use Rattle.yf_positions.proofs.CountLemmas.{columns_count}
use Rattle.yf_positions.proofs.laws.columns_count.Goals as goal

pub returns : goal.returns
returns c = columns_count
