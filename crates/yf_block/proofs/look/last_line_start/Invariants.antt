use Rattle.std.proofs.Common.{◌-◌, ◌≤◌, length, IfSome}
use Rattle.std.specs.Str.{IsCharBoundary}
use Rattle.yf_block.proofs.Ends.LastStartLemmas.{SoFar}
use Rattle.yf_block.proofs.look.last_line_start.Given as goal

abbrev pub decreases-characters : goal.decreases-characters
decreases-characters l = length l.text - l.at

abbrev pub invariant-characters : goal.invariant-characters
invariant-characters l = record {
  place : IsCharBoundary l.text l.at;
  found : IfSome l.found (λ p. IsCharBoundary l.text p);
  later : l.from ≤ l.at;
  last : SoFar l.text l.from l.end l.at l.found;
}
