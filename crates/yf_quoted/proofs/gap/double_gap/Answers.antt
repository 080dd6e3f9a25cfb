use Rattle.yf_quoted.proofs.GapLemmas.{double_of_plain, no_double_of_plain, no_escape_one_line, no_escape_at, escaped_found, no_escaped_lines}
use Rattle.yf_quoted.proofs.gap.double_gap.Goals as goal

pub returns-in-Some-single_gap-clause-reads : goal.returns-in-Some-single_gap-clause-reads
returns-in-Some-single_gap-clause-reads c =
    rw c.in-None.is (double_of_plain c.utf8.s c.in-Some-single_gap.ensures.boundary.0.0 no_escape_one_line c.in-Some-single_gap.ensures.reads)

pub returns-in-None-single_gap-2-clause-reads : goal.returns-in-None-single_gap-2-clause-reads
returns-in-None-single_gap-2-clause-reads c = rw c.in-Some.is (no_double_of_plain c.in-None-single_gap-2.ensures.reads)

pub returns-in-Some-single_gap-2-clause-reads : goal.returns-in-Some-single_gap-2-clause-reads
returns-in-Some-single_gap-2-clause-reads c =
    rw c.in-Some.is
    (double_of_plain c.utf8.s c.in-Some-single_gap-2.ensures.boundary.0.0
    (no_escape_at c.skip_whites-place.ensures.whites.1 c.skip_whites-place.ensures.all c.in-None-escaped_break.ensures.reads)
    c.in-Some-single_gap-2.ensures.reads)

pub returns-in-None-fold_lines-clause-reads : goal.returns-in-None-fold_lines-clause-reads
returns-in-None-fold_lines-clause-reads c =
    rw c.in-Some.is
    (no_escaped_lines c.skip_whites-place.ensures.whites.1 c.in-Some-escaped_break.ensures.reads.0 c.in-Some-escaped_break.ensures.reads.1 c.in-None-fold_lines.ensures.reads)

pub returns-in-Some-fold_lines-clause-reads : goal.returns-in-Some-fold_lines-clause-reads
returns-in-Some-fold_lines-clause-reads c =
    rw c.in-Some.is
    (escaped_found c.utf8.s c.skip_whites-place.ensures.boundary.0 c.skip_whites-place.ensures.whites.1 c.in-Some-escaped_break.ensures.reads.0 c.in-Some-escaped_break.ensures.reads.1
    c.in-Some-fold_lines.ensures.reads)
