use Rattle.yf_block.proofs.Ends.PropertiesLemmas.{first_ahead, joined_any}
use Rattle.yf_block.proofs.properties.joined_after.Goals as goal

pub returns-in-Some-clause-reads : goal.returns-in-Some-clause-reads
returns-in-Some-clause-reads c = λ a q w b. let v = rw c.in-Some.is at w in joined_any q c.args.inner.start c.args.inner.end v c.joined.result (c.joined.ensures.reads v.value q v.tied b)

pub returns-in-None-clause-reads : goal.returns-in-None-clause-reads
returns-in-None-clause-reads c = λ a q w b. first_ahead (rw c.in-None.is at w) b
