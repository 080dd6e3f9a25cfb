use Rattle.std.proofs.Common.{◌-◌, ◌≤◌}
use Rattle.std.specs.Str.{IsCharBoundary}
use Rattle.yf_explain.proofs.position.column_offset.Given as goal

abbrev pub invariant-loop-at : goal.invariant-loop-at
invariant-loop-at l = record { from : l.span.from ≤ l.at; to : l.at ≤ l.span.to; boundary : IsCharBoundary l.text l.at }

abbrev pub decreases-loop-at : goal.decreases-loop-at
decreases-loop-at l = l.span.to - l.at
