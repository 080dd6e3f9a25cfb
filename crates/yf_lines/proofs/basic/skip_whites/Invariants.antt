use Rattle.std.proofs.Common.{◌≤◌, ◌-◌, List, ℕ, length}
use Rattle.std.specs.Str.{IsCharBoundary}
use Rattle.yf_chars.specs.Chain.{Many}
use Rattle.yf_chars.specs.Class.{is_white}
use Rattle.yf_lines.proofs.basic.skip_whites.Given as goal

abbrev pub invariant-loop-end : goal.invariant-loop-end
invariant-loop-end l = record {
  whites : (x : List ℕ) × Many l.s is_white l.at l.end x;
  boundary : IsCharBoundary l.s l.end;
  order : l.at ≤ l.end;
}

abbrev pub decreases-loop-end : goal.decreases-loop-end
decreases-loop-end l = length l.s - l.end
