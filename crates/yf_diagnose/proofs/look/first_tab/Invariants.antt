use Rattle.std.proofs.Common.{◌-◌}
use Rattle.std.specs.Str.{IsCharBoundary}
use Rattle.yf_diagnose.proofs.look.first_tab.Given as goal

abbrev pub invariant-whites : goal.invariant-whites
invariant-whites l = record {
  boundary : IsCharBoundary l.text l.at;
}

abbrev pub decreases-whites : goal.decreases-whites
decreases-whites l = l.to - l.at
