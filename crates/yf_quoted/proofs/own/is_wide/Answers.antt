use Rattle.std.proofs.Common.{arith, sym, ◌∙◌}
use Rattle.yf_quoted.proofs.OwnLemmas.{wide_spelled}
use Rattle.yf_quoted.proofs.own.is_wide.Goals as goal

pub returns : goal.returns
returns c = λ e. wide_spelled c.args.c (omega (arith, c.if-c-le160.false)) (sym c.is_by_four.ensures ∙ c.if-is_by_four.false)
