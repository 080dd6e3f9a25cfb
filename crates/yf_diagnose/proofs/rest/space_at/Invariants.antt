use Rattle.std.proofs.Common.{◌≤◌, ◌-◌, length}
use Rattle.std.specs.Str.{IsCharBoundary}
use Rattle.yf_diagnose.proofs.rest.space_at.Given as goal

abbrev pub invariant-spaces : goal.invariant-spaces
invariant-spaces l = record {
  boundary : IsCharBoundary l.text l.end;
  order : l.at ≤ l.end;
}

abbrev pub decreases-spaces : goal.decreases-spaces
decreases-spaces l = length l.text - l.end
