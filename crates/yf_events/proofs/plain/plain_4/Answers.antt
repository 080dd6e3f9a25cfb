use Rattle.std.proofs.Common.{arith}
use Rattle.std.proofs.lemmas.Bool.{eqb-true}
use Rattle.yf_events.proofs.PlainLanes.{plain_lanes}
use Rattle.yf_events.proofs.plain.plain_4.Goals as goal

pub returns : goal.returns
returns c = plain_lanes c.args.text.now c.args.at 4 c.requires (omega arith) c.if-lanes-ne0.false _ (λ e. eqb-true _ 0 e)
