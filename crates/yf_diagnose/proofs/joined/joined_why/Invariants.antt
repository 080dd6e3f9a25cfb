use Rattle.std.specs.Str.{IsCharBoundary}
use Rattle.yf_diagnose.proofs.joined.joined_why.Given as goal

abbrev pub invariant-lines : goal.invariant-lines
invariant-lines l = record {
  first : IsCharBoundary l.text l.first;
}

abbrev pub decreases-lines : goal.decreases-lines
decreases-lines l = l.line
