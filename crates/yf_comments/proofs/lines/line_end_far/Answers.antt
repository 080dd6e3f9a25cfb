use Rattle.std.proofs.Common.{[], sym, ◌∙◌, append-nil}
use Rattle.yf_comments.proofs.LineEndLemmas.{next_starts, line_end_from, line_end_start, line_end_stuck}
use Rattle.yf_comments.proofs.LineOrder.{line_end_forward}
use Rattle.yf_comments.proofs.lines.line_end_far.Goals as goal

pub comment_lines-requires-clause-starts : goal.comment_lines-requires-clause-starts
comment_lines-requires-clause-starts c = next_starts (c.requires.rest c.if-from-at.true)

pub returns-then-from-at-clause-reads : goal.returns-then-from-at-clause-reads
returns-then-from-at-clause-reads c =
    line_end_from c.new-comments.ensures ([], c.requires.rest c.if-from-at.true, sym (append-nil c.new-comments.result)) c.in_ok-end.ensures.reads
    c.in_ok-end.ensures.all

pub returns-then-from-at-clause-order : goal.returns-then-from-at-clause-order
returns-then-from-at-clause-order c = line_end_forward (returns-then-from-at-clause-reads c).derived

pub comment_lines-requires-in-Some-clause-starts : goal.comment_lines-requires-in-Some-clause-starts
comment_lines-requires-in-Some-clause-starts c =
    let f = rw c.in-Some.is at c.in_ok-next.ensures.reads in
    next_starts f.1

pub returns-in-Some-clause-reads : goal.returns-in-Some-clause-reads
returns-in-Some-clause-reads c =
    let f = rw c.in-Some.is at c.in_ok-next.ensures.reads in
    line_end_from c.new-comments.ensures f c.in_ok-end-in-Some.ensures.reads c.in_ok-end-in-Some.ensures.all

pub returns-then-starts-clause-reads : goal.returns-then-starts-clause-reads
returns-then-starts-clause-reads c =
    let s = rw c.in-None.is at c.in_ok-next.ensures.reads in
    let e = rw c.in-None.is at c.in_ok-next.ensures.unchanged in
    line_end_start c.if-starts.ensures s (e ∙ c.new-comments.ensures)

pub returns-clause-reads : goal.returns-clause-reads
returns-clause-reads c = line_end_stuck c.if-starts.ensures (rw c.in-None.is at c.in_ok-next.ensures.reads)

pub returns-in-Some-clause-order : goal.returns-in-Some-clause-order
returns-in-Some-clause-order c = line_end_forward (returns-in-Some-clause-reads c).derived
