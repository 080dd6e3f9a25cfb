use Rattle.std.proofs.Common.{arith}
use Rattle.yf_stream.proofs.LeafPass.LeafLemmas.{stops_at_end}
use Rattle.yf_stream.proofs.LeafPass.LeafSearches.{begun_more}
use Rattle.yf_stream.proofs.leaf_lines.begun_before.Goals as goal

pub events-preserved : goal.events-preserved
events-preserved c =
    record { later = omega (arith, c.events.invariant.later); begun = begun_more c.if-not-has_begun.ensures c.events.invariant.begun }

pub returns-clause-stops : goal.returns-clause-stops
returns-clause-stops c = stops_at_end c.args.events.now c.events.at c.args.offset (omega (arith, c.len.ensures, c.events-test.false))
