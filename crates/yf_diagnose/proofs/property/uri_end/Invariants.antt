use Rattle.std.proofs.Common.{◌≤◌, ◌-◌, length}
use Rattle.std.specs.Str.{IsCharBoundary}
use Rattle.yf_diagnose.proofs.property.uri_end.Given as goal

abbrev pub invariant-chars : goal.invariant-chars
invariant-chars l = record {
  boundary : IsCharBoundary l.text l.end;
  order : l.at ≤ l.end;
}

abbrev pub decreases-chars : goal.decreases-chars
decreases-chars l = length l.text - l.end
