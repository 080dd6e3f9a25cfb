use Rattle.std.proofs.Common.{arith}
use Rattle.yf_stream.proofs.Reader.DirectiveLineLemmas.{directives_at, directives_empty, directives_end, directives_read}
use Rattle.yf_stream.proofs.directives.read_directives.Goals as goal

pub directives-init : goal.directives-init
directives-init c = record {
  read = directives_empty _ _ c.new-directives.ensures;
  place = record { boundary = c.requires; order = omega arith };
}

pub directives-preserved : goal.directives-preserved
directives-preserved c =
    let line = rw c.in-Some.is at c.in_ok-line.ensures.reads in
    let place = rw c.in-Some.is at c.in_ok-line.ensures.place in
    record {
      read = directives_read c.directives.invariant.read line c.in_ok-push-in-Some.ensures c.in_ok-append-in-Some.ensures;
      place = record { boundary = place.boundary; order = omega (arith, c.directives.invariant.place.order, place.order) };
    }

pub returns-in-None-clause-reads : goal.returns-in-None-clause-reads
returns-in-None-clause-reads c = directives_end c.directives.invariant.read c.directives-test.ensures.cases.char (rw c.in-None.is at c.in_ok-line.ensures.reads)

pub returns-clause-begin : goal.returns-clause-begin
returns-clause-begin c = directives_at c.directives.invariant.read.longest
