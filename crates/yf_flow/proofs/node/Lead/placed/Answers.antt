use Rattle.std.proofs.Common.{refl}
use Rattle.yf_flow.proofs.node.Lead.placed.Goals as goal

pub returns : goal.returns
returns c = rw c.new.ensures refl
