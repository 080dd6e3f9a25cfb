use Rattle.std.proofs.Common.{◌-◌, ◌≤◌}
use Rattle.std.specs.Str.{IsCharBoundary}
use Rattle.yf_explain.proofs.source.window_start.Given as goal

abbrev pub invariant-loop-start : goal.invariant-loop-start
invariant-loop-start l = record { from : l.from ≤ l.start; to : l.start ≤ l.at; boundary : IsCharBoundary l.text l.start; few : l.columns ≤ 34 }

abbrev pub decreases-loop-start : goal.decreases-loop-start
decreases-loop-start l = l.start - l.from
