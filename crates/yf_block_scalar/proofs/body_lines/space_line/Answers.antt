use Rattle.yf_block_scalar.proofs.BodyLemmas.{no_space_line}
use Rattle.yf_block_scalar.proofs.body_lines.space_line.Goals as goal

pub returns-in-None-clause-reads : goal.returns-in-None-clause-reads
returns-in-None-clause-reads c = no_space_line c.args.s.now c.args.at _ c.skip_spaces-end.ensures.order c.skip_spaces-end.ensures.spaces c.skip_spaces-end.ensures.all c.in-None.ensures.reads
