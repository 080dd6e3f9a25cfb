-- No line break is before the offset.
use Rattle.std.proofs.Common.{◌≡◌, ◌-◌}
use Rattle.yf_outline.specs.Outline.{line_end}
use Rattle.yf_outline.proofs.outline.line_end.Given as goal

abbrev pub invariant-loop-at : goal.invariant-loop-at
invariant-loop-at l = line_end l.text l.at l.end ≡ line_end l.text l.start l.end

abbrev pub decreases-loop-at : goal.decreases-loop-at
decreases-loop-at l = l.end - l.at
