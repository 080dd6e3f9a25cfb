use Rattle.std.proofs.Common.{◌<◌, ◌-◌, length}
use Rattle.std.specs.Str.{IsCharBoundary}
use Rattle.yf_diagnose.specs.Brackets.{IsOpen}
use Rattle.yf_diagnose.proofs.brackets.brackets_end.Given as goal

abbrev pub invariant-signs : goal.invariant-signs
invariant-signs l = record {
  boundary : IsCharBoundary l.text l.here;
  order : l.at < l.here;
  levels : IsOpen l.levels.count;
}

abbrev pub decreases-signs : goal.decreases-signs
decreases-signs l = length l.text - l.here
