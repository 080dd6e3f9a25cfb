use Rattle.std.proofs.Common.{◌-◌, length}
use Rattle.yf_excludes.proofs.ClassLemmas.{MembersSoFar}
use Rattle.yf_excludes.proofs.read_class.read_members.Given as goal

abbrev pub invariant-members : goal.invariant-members
invariant-members l = MembersSoFar l.text l.start l.ranges.items l.at

abbrev pub decreases-members : goal.decreases-members
decreases-members l = length l.text - l.at
