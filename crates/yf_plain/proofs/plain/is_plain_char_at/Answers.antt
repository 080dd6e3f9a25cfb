use Rattle.std.proofs.Common.{sym, ◌∙◌}
use Rattle.yf_plain.proofs.plain.is_plain_char_at.Goals as goal

pub returns : goal.returns
returns c = λ e. c.is_ordinary_at.ensures e c.args.ctx (sym c.is_block.ensures ∙ c.if-is_block.false)
