use Rattle.std.proofs.Common.{◌-◌, ◌≤◌, length}
use Rattle.std.specs.Str.{IsCharBoundary}
use Rattle.yf_quoted.proofs.OwnLemmas.{RunSoFar}
use Rattle.yf_quoted.proofs.own.own_run.Given as goal

abbrev pub invariant-chars : goal.invariant-chars
invariant-chars l = record { run : RunSoFar l.text l.at l.end; boundary : IsCharBoundary l.text l.end; order : l.at ≤ l.end }

abbrev pub decreases-chars : goal.decreases-chars
decreases-chars l = length l.text - l.end
