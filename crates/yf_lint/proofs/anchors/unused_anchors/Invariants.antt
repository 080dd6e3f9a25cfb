use Rattle.std.proofs.Common.{◌≡◌, ◌≤◌, drop, length, reverse}
use Rattle.yf_lint.specs.Anchors.{is_used, unused}
use Rattle.yf_lint.specs.NameSets.{IsNameSet}
use Rattle.yf_lint.proofs.anchors.unused_anchors.Given as goal

abbrev pub invariant-loop-i : goal.invariant-loop-i
invariant-loop-i l =
    (l.i ≤ length l.reading.events) × IsNameSet (is_used (drop l.i l.reading.events)) l.names
    × (reverse l.offsets.items ≡ unused (drop l.i l.reading.events))

abbrev pub decreases-loop-i : goal.decreases-loop-i
decreases-loop-i l = l.i
