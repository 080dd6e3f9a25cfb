use Rattle.yf_block.proofs.Ends.NotedLemmas.{shorter_there, one_line_there, no_plain_there}
use Rattle.yf_block.proofs.halt.note_shorter.Goals as goal

pub returns-in-Some-last_line_start-clause-noted : goal.returns-in-Some-last_line_start-clause-noted
returns-in-Some-last_line_start-clause-noted c = shorter_there c.in-Some.is c.in-Some-last_line_start.ensures.last

pub returns-in_default-last_line_start-clause-noted : goal.returns-in_default-last_line_start-clause-noted
returns-in_default-last_line_start-clause-noted c = one_line_there c.in-Some.is c.in_default-last_line_start.ensures.last

pub returns-in_default-clause-noted : goal.returns-in_default-clause-noted
returns-in_default-clause-noted c = no_plain_there c.args.plain c.in_default.not-Some
