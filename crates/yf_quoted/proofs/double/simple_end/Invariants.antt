use Rattle.std.proofs.Common.{◌-◌, ◌≤◌, length, List, ℕ}
use Rattle.std.specs.Str.{IsCharBoundary}
use Rattle.yf_chars.specs.Chain.{Chain}
use Rattle.yf_quoted.specs.Body.{SimpleChar}
use Rattle.yf_quoted.proofs.double.simple_end.Given as goal

abbrev pub invariant-chars : goal.invariant-chars
invariant-chars l = record { read : (x : List ℕ) × Chain (SimpleChar l.s) l.at l.end x; boundary : IsCharBoundary l.s l.end; order : l.at ≤ l.end }

abbrev pub decreases-chars : goal.decreases-chars
decreases-chars l = length l.s - l.end
