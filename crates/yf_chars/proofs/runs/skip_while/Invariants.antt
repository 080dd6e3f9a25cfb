use Rattle.std.proofs.Common.{ℕ, List, ◌-◌, ◌≤◌, length}
use Rattle.std.specs.Str.{IsCharBoundary}
use Rattle.yf_chars.specs.Chain.{Many}
use Rattle.yf_chars.proofs.runs.skip_while.Given as goal

abbrev pub invariant-chars : goal.invariant-chars
invariant-chars g l = record {
  run : (x : List ℕ) × Many l.s g.C.CharClass.members l.at l.end x;
  boundary : IsCharBoundary l.s l.end;
  order : l.at ≤ l.end;
}

abbrev pub decreases-chars : goal.decreases-chars
decreases-chars g l = length l.s - l.end
