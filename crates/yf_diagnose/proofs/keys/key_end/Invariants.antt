use Rattle.std.proofs.Common.{◌≤◌, ◌-◌, length}
use Rattle.std.specs.Str.{IsCharBoundary}
use Rattle.yf_diagnose.proofs.keys.key_end.Given as goal

abbrev pub invariant-properties : goal.invariant-properties
invariant-properties l = record {
  boundary : IsCharBoundary l.text l.here;
  order : l.at ≤ l.here;
}

abbrev pub decreases-properties : goal.decreases-properties
decreases-properties l = length l.text - l.here
