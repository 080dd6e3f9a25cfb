use Rattle.std.proofs.Common.{◌≤◌, ◌-◌, length}
use Rattle.std.specs.Str.{IsCharBoundary}
use Rattle.yf_diagnose.proofs.plain.plain_lines_end.Given as goal

abbrev pub invariant-lines : goal.invariant-lines
invariant-lines l = record {
  boundary : IsCharBoundary l.text l.end;
  order : l.at ≤ l.end;
}

abbrev pub decreases-lines : goal.decreases-lines
decreases-lines l = length l.text - l.end
