use Rattle.std.proofs.Common.{◌-◌, length}
use Rattle.yf_stream.proofs.LeafPass.LeafLemmas.{NotedSoFar}
use Rattle.yf_stream.proofs.leaf_lines.on_leaf_lines.Given as goal

abbrev pub invariant-comments : goal.invariant-comments
invariant-comments l = NotedSoFar l.text l.events l.comments l.seen.events l.seen.leaf_end l.notes

abbrev pub decreases-comments : goal.decreases-comments
decreases-comments l = length l.comments - length l.notes
