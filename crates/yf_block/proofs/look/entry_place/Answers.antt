use Rattle.yf_block.proofs.Ends.EntryLineLemmas.{entry_line, no_line_after_spaces}
use Rattle.yf_block.proofs.look.entry_place.Goals as goal

pub returns-then-line_ends-clause-entry : goal.returns-then-line_ends-clause-entry
returns-then-line_ends-clause-entry c b m p l = no_line_after_spaces b c.skip_spaces-place.ensures.order c.skip_spaces-place.ensures.spaces c.skip_whites.ensures.whites.1 c.skip_whites.ensures.all c.if-line_ends.ensures l

pub returns-clause-entry : goal.returns-clause-entry
returns-clause-entry c = entry_line c.if-node_ends.ensures c.skip_spaces-place.ensures.order c.skip_spaces-place.ensures.spaces c.skip_spaces-place.ensures.all c.skip_whites.ensures.whites.1 c.skip_whites.ensures.all c.if-line_ends.ensures
