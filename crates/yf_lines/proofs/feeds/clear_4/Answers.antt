use Rattle.std.proofs.Common.{arith}
use Rattle.std.proofs.lemmas.Bool.{eqb-true, eqb-false}
use Rattle.yf_lines.proofs.FeedLanes.{clear_lanes}
use Rattle.yf_lines.proofs.feeds.clear_4.Goals as goal

pub returns : goal.returns
returns c = clear_lanes c.args.text.now c.args.at 4 c.requires (omega arith) _ (λ e. eqb-true _ 0 e) (λ e. eqb-false _ 0 e)
