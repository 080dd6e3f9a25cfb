use Rattle.yf_host.proofs.files.report_unwritten.Goals as goal

pub returns-in-Left-clause-line : goal.returns-in-Left-clause-line
returns-in-Left-clause-line g c = rw c.in-Left.is c.tell.ensures.line

pub returns-in-Unsure-clause-line : goal.returns-in-Unsure-clause-line
returns-in-Unsure-clause-line g c = rw c.in-Unsure.is c.tell-in-Unsure.ensures.line
