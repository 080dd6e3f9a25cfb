use Rattle.std.proofs.Common.{◌≤◌, ◌-◌, length}
use Rattle.std.specs.Str.{IsCharBoundary}
use Rattle.yf_diagnose.proofs.look.entry_in.Given as goal

abbrev pub invariant-indicators : goal.invariant-indicators
invariant-indicators l = record {
  boundary : IsCharBoundary l.text l.at;
  order : l.base ≤ l.at;
}

abbrev pub decreases-indicators : goal.decreases-indicators
decreases-indicators l = length l.text - l.at
