use Rattle.std.proofs.Common.{◌≤◌, ◌-◌, length}
use Rattle.std.specs.Str.{IsCharBoundary}
use Rattle.yf_diagnose.proofs.plain.plain_end.Given as goal

abbrev pub invariant-chars : goal.invariant-chars
invariant-chars l = record {
  boundary : IsCharBoundary l.text l.here;
  last : IsCharBoundary l.text l.end;
  order : l.at ≤ l.end;
  reached : l.end ≤ l.here;
}

abbrev pub decreases-chars : goal.decreases-chars
decreases-chars l = length l.text - l.here
