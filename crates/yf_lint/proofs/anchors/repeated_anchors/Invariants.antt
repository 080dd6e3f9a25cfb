use Rattle.std.proofs.Common.{◌≡◌, ◌++◌, ℕ, List, [], drop}
use Rattle.yf_lint.specs.Anchors.{has, repeated}
use Rattle.yf_lint.specs.NameSets.{IsNameSet}
use Rattle.yf_lint.proofs.anchors.repeated_anchors.Given as goal

abbrev pub invariant-loop-i : goal.invariant-loop-i
invariant-loop-i l = (before : List (List ℕ)) × IsNameSet (has before) l.names
    × (l.offsets.items ++ repeated before (drop l.i l.reading.events) ≡ repeated [] l.reading.events)
