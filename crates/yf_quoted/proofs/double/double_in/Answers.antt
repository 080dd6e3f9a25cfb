use Rattle.std.proofs.Common.{to_z-of_z}
use Rattle.yf_quoted.specs.Body.{WidthOf}
use Rattle.yf_quoted.proofs.QuotedLemmas.{simple_read, body_read, no_double}
use Rattle.yf_quoted.proofs.double.double_in.Goals as goal

pub returns-in-Some-clause-reads : goal.returns-in-Some-clause-reads
returns-in-Some-clause-reads c =
    let width : WidthOf c.args.n c.args.ctx c.lines_width-width.result = rw (to_z-of_z c.ranges.n) at c.lines_width-width.ensures in
    simple_read c.utf8.s width c.if-not-is_char_at.ensures.cases.char c.in-Some.ensures.boundary.0 c.in-Some.ensures.reads.1 c.in-Some.ensures.close.char c.range.ensures.value c.new.ensures

pub returns-in-None-2-clause-reads : goal.returns-in-None-2-clause-reads
returns-in-None-2-clause-reads c =
    let width : WidthOf c.args.n c.args.ctx c.lines_width-width.result = rw (to_z-of_z c.ranges.n) at c.lines_width-width.ensures in
    no_double width (rw c.in-None-2.is at c.in_ok-double_body-in-None.ensures.reads)

pub returns-in-Some-2-clause-reads : goal.returns-in-Some-2-clause-reads
returns-in-Some-2-clause-reads c =
    let width : WidthOf c.args.n c.args.ctx c.lines_width-width.result = rw (to_z-of_z c.ranges.n) at c.lines_width-width.ensures in
    body_read c.utf8.s width c.if-not-is_char_at.ensures.cases.char (rw c.in-Some-2.is at c.in_ok-double_body-in-None.ensures.reads)
