use Rattle.yf_block.proofs.Ends.Forward.{line_end_forward}
use Rattle.yf_block.proofs.line.read_line_end.Goals as goal

pub returns-in-Some-clause-place : goal.returns-in-Some-clause-place
returns-in-Some-clause-place c = record {
  boundary = rw c.in-Some.is at c.in_ok-separation.ensures.boundary;
  order = line_end_forward (rw c.in-Some.is at c.in_ok-separation.ensures.reads).derived;
}

pub line_end-requires : goal.line_end-requires
line_end-requires c = c.requires

pub returns-in-Some-clause-reads : goal.returns-in-Some-clause-reads
returns-in-Some-clause-reads c = rw c.in-Some.is at c.in_ok-separation.ensures.reads

pub returns-in-None-clause-place : goal.returns-in-None-clause-place
returns-in-None-clause-place c = tt
