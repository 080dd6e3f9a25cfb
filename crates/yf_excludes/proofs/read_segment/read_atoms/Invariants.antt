use Rattle.std.proofs.Common.{◌-◌, length}
use Rattle.yf_excludes.proofs.SegmentLemmas.{AtomsSoFar}
use Rattle.yf_excludes.proofs.read_segment.read_atoms.Given as goal

abbrev pub invariant-atoms : goal.invariant-atoms
invariant-atoms l = AtomsSoFar l.text l.atoms.items l.at

abbrev pub decreases-atoms : goal.decreases-atoms
decreases-atoms l = length l.text - l.at
