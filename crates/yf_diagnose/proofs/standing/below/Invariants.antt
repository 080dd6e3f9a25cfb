use Rattle.std.specs.Str.{IsCharBoundary}
use Rattle.yf_diagnose.proofs.standing.below.Given as goal

abbrev pub invariant-lines : goal.invariant-lines
invariant-lines l = record {
  boundary : IsCharBoundary l.text l.line;
}

abbrev pub decreases-lines : goal.decreases-lines
decreases-lines l = l.line
