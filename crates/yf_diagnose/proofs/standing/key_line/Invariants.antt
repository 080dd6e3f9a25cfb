use Rattle.std.proofs.Common.{◌≤◌}
use Rattle.std.specs.Str.{IsCharBoundary}
use Rattle.yf_diagnose.proofs.standing.key_line.Given as goal

abbrev pub invariant-lines : goal.invariant-lines
invariant-lines l = record {
  boundary : IsCharBoundary l.text l.line;
  key : IsCharBoundary l.text l.key;
  order : l.line ≤ l.key;
  under : l.key ≤ l.start;
}

abbrev pub decreases-lines : goal.decreases-lines
decreases-lines l = l.line
