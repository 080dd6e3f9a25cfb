use Rattle.yf_quoted.proofs.ReadLemmas.{no_simple_end}
use Rattle.yf_quoted.proofs.simple.simple_char.Goals as goal

pub returns-in-None-clause-reads : goal.returns-in-None-clause-reads
returns-in-None-clause-reads c = no_simple_end c.in-None.ensures.0
