use Rattle.std.proofs.Common.{◌+◌}
use Rattle.yf_grammar.proofs.BlockOutcomes.BlockClaims.{colon_line}
use Rattle.yf_block.proofs.halt.value_follows.Goals as goal

pub returns-in-None : goal.returns-in-None
returns-in-None c b n z = c.in-None.ensures.entry b z.column (c.args.at + z.column) (colon_line z.line)
