use Rattle.std.proofs.Common.{◌-◌, ◌≤◌, length, List, ℕ}
use Rattle.std.specs.Str.{IsCharBoundary}
use Rattle.yf_chars.specs.Chain.{Many}
use Rattle.yf_chars.specs.Class.{is_white}
use Rattle.yf_quoted.proofs.SimpleLemmas.{WordsSoFar}
use Rattle.yf_quoted.proofs.simple.words_end.Given as goal

abbrev pub invariant-chars : goal.invariant-chars
invariant-chars l = record {
  words : WordsSoFar l.s l.at l.end;
  whites : (x : List ℕ) × Many l.s is_white l.end l.next x;
  boundary : IsCharBoundary l.s l.end;
  next : IsCharBoundary l.s l.next;
  order : l.at ≤ l.end;
  follows : l.end ≤ l.next;
}

abbrev pub decreases-chars : goal.decreases-chars
decreases-chars l = length l.s - l.next
