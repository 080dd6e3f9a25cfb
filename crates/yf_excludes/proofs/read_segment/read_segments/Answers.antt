use Rattle.yf_excludes.proofs.SegmentLemmas.{segments_more, segments_none}
use Rattle.yf_excludes.proofs.read_segment.read_segments.Goals as goal

pub returns-in-None-2 : goal.returns-in-None-2
returns-in-None-2 c =
    let never = rw c.in-None-2.is at c.in_ok-read_segment-in-Some.ensures in
    segments_none c.parts.invariant c.in-Some.ensures.value never c.up_to.ensures

pub parts-preserved : goal.parts-preserved
parts-preserved c =
    let read = rw c.in-Some-2.is at c.in_ok-read_segment-in-Some.ensures in
    segments_more c.parts.invariant c.in-Some.ensures.value read c.up_to.ensures c.after_index-rest.ensures
    c.in_ok-push-in-Some-2.ensures.items
