use Rattle.std.proofs.Common.{◌≤◌, ◌-◌, length}
use Rattle.std.specs.Str.{IsCharBoundary}
use Rattle.yf_diagnose.proofs.gap.lines_passed.Given as goal

abbrev pub invariant-lines : goal.invariant-lines
invariant-lines l = record {
  boundary : IsCharBoundary l.text l.start;
  order : l.at ≤ l.start;
}

abbrev pub decreases-lines : goal.decreases-lines
decreases-lines l = length l.text - l.start
