use Rattle.yf_lint.proofs.PlainRuns.{agree_if_quiet}
use Rattle.yf_lint.proofs.ambiguous_plains.unambiguous_plains_agree.Goals as goal

pub returns : goal.returns
returns c = agree_if_quiet c.args._reading.now
