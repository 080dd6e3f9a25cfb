use Rattle.std.proofs.Common.{◌≤◌, ◌-◌, length}
use Rattle.std.specs.Str.{IsCharBoundary}
use Rattle.yf_diagnose.proofs.look.begun_line.Given as goal

abbrev pub invariant-indicators : goal.invariant-indicators
invariant-indicators l = record {
  boundary : IsCharBoundary l.text l.at;
  start : IsCharBoundary l.text l.from;
  order : l.base ≤ l.at;
  turn : l.from ≤ l.at;
}

abbrev pub decreases-indicators : goal.decreases-indicators
decreases-indicators l = length l.text - l.at
