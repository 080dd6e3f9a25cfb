use Rattle.yf_block_scalar.proofs.HeaderLemmas.{marks_inside, header_chosen, header_stuck, no_header}
use Rattle.yf_block_scalar.proofs.ScalarLemmas.{rest_comment}
use Rattle.yf_block_scalar.proofs.ScalarOrder.{header_later, header_starts}
use Rattle.yf_block_scalar.proofs.header_reader.block_header.Goals as goal

pub line_rest-requires-clause-starts : goal.line_rest-requires-clause-starts
line_rest-requires-clause-starts c = marks_inside c.utf8.s c.in-Some.ensures.reads c.read_marks-digit.ensures.reads

pub returns-in-Some-line_rest-clause-reads : goal.returns-in-Some-line_rest-clause-reads
returns-in-Some-line_rest-clause-reads c = header_chosen c.utf8.s c.in-Some.ensures.reads c.read_marks-digit.ensures.reads c.read_marks-digit.ensures.all c.in-Some-line_rest.ensures.reads

pub returns-in-None-line_rest-clause-reads : goal.returns-in-None-line_rest-clause-reads
returns-in-None-line_rest-clause-reads c = header_stuck c.utf8.s c.in-Some.ensures.reads c.read_marks-digit.ensures.all c.in-None-line_rest.ensures.reads

pub returns-in-None-clause-reads : goal.returns-in-None-clause-reads
returns-in-None-clause-reads c = no_header c.in-None.ensures.reads

pub returns-in-Some-line_rest-clause-comment : goal.returns-in-Some-line_rest-clause-comment
returns-in-Some-line_rest-clause-comment c = rest_comment c.in-Some-line_rest.field-0.comment c.utf8.s c.in-Some-line_rest.ensures.reads

pub returns-in-Some-line_rest-clause-order : goal.returns-in-Some-line_rest-clause-order
returns-in-Some-line_rest-clause-order c = header_later (returns-in-Some-line_rest-clause-reads c).derived

pub returns-in-Some-line_rest-clause-starts : goal.returns-in-Some-line_rest-clause-starts
returns-in-Some-line_rest-clause-starts c = header_starts (returns-in-Some-line_rest-clause-reads c).derived
