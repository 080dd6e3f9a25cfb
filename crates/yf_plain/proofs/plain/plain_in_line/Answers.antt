use Rattle.std.proofs.Common.{arith}
use Rattle.yf_plain.proofs.plain.plain_in_line.Goals as goal
use Rattle.yf_chars.proofs.ChainLemmas.{chain_append, chain_more}
use Rattle.yf_chars.specs.Chain.Chain.{done}

pub items-init : goal.items-init
items-init c = record { so_far = (_, done); follows = c.requires.follows; boundary = c.requires.boundary; order = omega arith }

pub items-preserved : goal.items-preserved
items-preserved c =
    let run = chain_append c.items.invariant.so_far.1 c.ordinary_run-word_end.ensures.reads.1 in
    record {
      so_far = (_, chain_more run c.in-Some.ensures.reads.1);
      follows = c.in-Some.ensures.follows;
      boundary = c.in-Some.ensures.boundary;
      order = omega (arith, c.items.invariant.order, c.ordinary_run-word_end.ensures.order, c.in-Some.ensures.order);
    }

pub returns-in-None-clause-reads : goal.returns-in-None-clause-reads
returns-in-None-clause-reads c = (_, chain_append c.items.invariant.so_far.1 c.ordinary_run-word_end.ensures.reads.1)
