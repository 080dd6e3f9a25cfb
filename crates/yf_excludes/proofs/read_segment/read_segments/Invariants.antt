use Rattle.std.proofs.Common.{length}
use Rattle.yf_excludes.proofs.SegmentLemmas.{SegmentsSoFar}
use Rattle.yf_excludes.proofs.read_segment.read_segments.Given as goal

abbrev pub invariant-parts : goal.invariant-parts
invariant-parts l = SegmentsSoFar l.text l.segments.items l.rest

abbrev pub decreases-parts : goal.decreases-parts
decreases-parts l = length l.rest
