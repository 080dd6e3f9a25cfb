use Rattle.std.proofs.Common.{arith}
use Rattle.yf_stream.proofs.LeafPass.LeafLemmas.{ends_before_start, ends_after_start}
use Rattle.yf_stream.proofs.leaf_lines.ends_on_line.Goals as goal

pub returns-then-start-end : goal.returns-then-start-end
returns-then-start-end c = λ ls a d.
    ends_after_start c.in-Some.end c.in-Some.is a d c.line_start-start.ensures (omega (arith, c.saturating_add.ensures)) (omega (arith, c.saturating_add.ensures))
    c.next_line-next.ensures c.if-start-end.true

pub returns-else-start-end : goal.returns-else-start-end
returns-else-start-end c = λ ls a d.
    ends_before_start c.in-Some.end c.in-Some.is a d c.line_start-start.ensures (omega (arith, c.saturating_add.ensures)) (omega (arith, c.saturating_add.ensures))
    c.next_line-next.ensures c.if-start-end.false
