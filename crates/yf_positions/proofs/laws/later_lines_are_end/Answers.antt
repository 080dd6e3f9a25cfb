use Rattle.yf_positions.proofs.ExactLemmas.{later_lines}
use Rattle.yf_positions.proofs.laws.later_lines_are_end.Goals as goal

pub returns : goal.returns
returns c = later_lines
