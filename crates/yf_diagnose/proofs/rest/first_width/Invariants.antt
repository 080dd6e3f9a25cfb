use Rattle.std.proofs.Common.{◌-◌, length}
use Rattle.std.specs.Str.{IsCharBoundary}
use Rattle.yf_diagnose.proofs.rest.first_width.Given as goal

abbrev pub invariant-lines : goal.invariant-lines
invariant-lines l = record {
  boundary : IsCharBoundary l.text l.start;
}

abbrev pub decreases-lines : goal.decreases-lines
decreases-lines l = length l.text - l.start
