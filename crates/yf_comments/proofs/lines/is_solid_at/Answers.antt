use Rattle.std.proofs.Common.{arith}
use Rattle.yf_comments.proofs.SolidLemmas.{no_end}
use Rattle.yf_comments.proofs.lines.is_solid_at.Goals as goal

pub returns-clause-rest : goal.returns-clause-rest
returns-clause-rest c = λ _. no_end (omega arith) c.if-is_char_at-2.ensures.cases c.if-is_char_at-3.ensures.cases
