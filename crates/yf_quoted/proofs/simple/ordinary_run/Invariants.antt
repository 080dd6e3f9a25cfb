use Rattle.std.proofs.Common.{◌-◌, ◌≤◌, length, List, ℕ}
use Rattle.std.specs.Str.{IsCharBoundary}
use Rattle.yf_chars.specs.Chain.{Chain}
use Rattle.yf_quoted.specs.Body.{SimpleChar}
use Rattle.yf_quoted.proofs.simple.ordinary_run.Given as goal

abbrev pub invariant-loop-end : goal.invariant-loop-end
invariant-loop-end l = record { read : (x : List ℕ) × Chain (SimpleChar l.s) l.at l.end x; boundary : IsCharBoundary l.s l.end; order : l.at ≤ l.end }

abbrev pub decreases-loop-end : goal.decreases-loop-end
decreases-loop-end l = length l.s - l.end
