use Rattle.std.proofs.Common.{to_z-of_z, ◌∙◌}
use Rattle.yf_quoted.specs.Body.{WidthOf}
use Rattle.yf_quoted.proofs.SingleReadLemmas.{line_chosen, single_read, no_single}
use Rattle.yf_quoted.proofs.single.single_in.Goals as goal

pub returns-in-Some-clause-reads : goal.returns-in-Some-clause-reads
returns-in-Some-clause-reads c =
    let width : WidthOf c.args.n c.args.ctx c.lines_width-width.result = rw (to_z-of_z c.ranges.n) at c.lines_width-width.ensures in
    let row = c.in-Some.ensures.reads in
    (row.0, c.range.ensures.value ∙ row.3, line_chosen c.utf8.s width c.if-not-is_char_at.ensures.cases.char row.1 row.2 c.in-Some.ensures.close.char c.in-Some.ensures.alone)

pub returns-in-None-2-clause-reads : goal.returns-in-None-2-clause-reads
returns-in-None-2-clause-reads c =
    let width : WidthOf c.args.n c.args.ctx c.lines_width-width.result = rw (to_z-of_z c.ranges.n) at c.lines_width-width.ensures in
    no_single width (rw c.in-None-2.is at c.in_ok-single_body-in-None.ensures.reads)

pub returns-in-Some-2-clause-reads : goal.returns-in-Some-2-clause-reads
returns-in-Some-2-clause-reads c =
    let width : WidthOf c.args.n c.args.ctx c.lines_width-width.result = rw (to_z-of_z c.ranges.n) at c.lines_width-width.ensures in
    single_read c.utf8.s width c.if-not-is_char_at.ensures.cases.char (rw c.in-Some-2.is at c.in_ok-single_body-in-None.ensures.reads)
