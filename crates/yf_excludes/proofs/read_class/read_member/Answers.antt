use Rattle.yf_excludes.proofs.ClassLemmas.{no_first}
use Rattle.yf_excludes.proofs.read_class.read_member.Goals as goal

pub returns-in-None-clause-read : goal.returns-in-None-clause-read
returns-in-None-clause-read c = λ r j m. no_first c.in-None.ensures.read m
