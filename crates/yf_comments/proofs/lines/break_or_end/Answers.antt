use Rattle.yf_comments.specs.Comments.BreakOrEnd.{by_break, by_end}
use Rattle.yf_comments.proofs.lines.break_or_end.Goals as goal

pub returns-then-at-s-clause-reads : goal.returns-then-at-s-clause-reads
returns-then-at-s-clause-reads c = by_end c.if-at-s.true

pub returns-in-Some-clause-reads : goal.returns-in-Some-clause-reads
returns-in-Some-clause-reads c = by_break c.in-Some.ensures.reads
