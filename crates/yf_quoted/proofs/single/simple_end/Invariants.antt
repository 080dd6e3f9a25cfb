use Rattle.std.proofs.Common.{◌-◌, ◌≤◌, length}
use Rattle.std.specs.Str.{IsCharBoundary}
use Rattle.yf_quoted.proofs.SingleReadLemmas.{Row}
use Rattle.yf_quoted.proofs.single.simple_end.Given as goal

abbrev pub invariant-chars : goal.invariant-chars
invariant-chars l = record { row : Row l.s l.at l.end; boundary : IsCharBoundary l.s l.end; order : l.at ≤ l.end }

abbrev pub decreases-chars : goal.decreases-chars
decreases-chars l = length l.s - l.end
