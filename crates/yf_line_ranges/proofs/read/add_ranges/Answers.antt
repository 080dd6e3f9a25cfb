use Rattle.yf_line_ranges.specs.Written.{is_range, range_of}
use Rattle.yf_line_ranges.proofs.PartLemmas.{one_fails, one_more, one_passes}
use Rattle.yf_line_ranges.proofs.read.add_ranges.Goals as goal

pub returns-in-None-clause-written : goal.returns-in-None-clause-written
returns-in-None-clause-written c =
    one_fails is_range c.as_slice-part-items.result.now c.loop-part.part-index _ _ c.loop-part-test.true
    c.loop-part.invariant.decided c.in-None.ensures

pub loop-part-preserved : goal.loop-part-preserved
loop-part-preserved c = record {
  decided = one_passes is_range c.as_slice-part-items.result.now c.loop-part.part-index _ _ c.loop-part-test.true
      c.loop-part.invariant.decided c.in-Some.ensures.0;
  added = one_more range_of c.as_slice-part-items.result.now c.loop-part.part-index _ _ _ _ _ c.loop-part-test.true
      c.in_ok-push-in-Some.ensures.items c.in-Some.ensures.1 c.loop-part.invariant.added;
}
