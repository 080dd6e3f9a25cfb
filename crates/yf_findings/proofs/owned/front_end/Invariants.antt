use Rattle.std.proofs.Common.{◌≤◌, ◌+◌, ℕ}
use Rattle.std.specs.Str.{IsCharBoundary}
use Rattle.yf_findings.specs.declared.owned.TheConstants.{FRONT}
use Rattle.yf_findings.proofs.owned.front_end.Given as goal

abbrev pub invariant-loop-stop : goal.invariant-loop-stop
invariant-loop-stop l = record {
  from : l.start ≤ l.stop;
  room : l.stop ≤ l.start + FRONT;
  longest : (b : ℕ) → IsCharBoundary l.text b → b ≤ l.start + FRONT → b ≤ l.stop;
}

abbrev pub decreases-loop-stop : goal.decreases-loop-stop
decreases-loop-stop l = l.stop
