use Rattle.std.proofs.Common.{ℕ, List, ◌-◌, ◌≤◌, length}
use Rattle.std.specs.Str.{IsCharBoundary}
use Rattle.yf_chars.specs.Chain.{Many}
use Rattle.yf_chars.specs.Class.{is_nb_char}
use Rattle.yf_chars.proofs.nb_runs.ascii_run.Given as goal

abbrev pub invariant-loop-end : goal.invariant-loop-end
invariant-loop-end l = record {
  run : (x : List ℕ) × Many l.s is_nb_char l.at l.end x;
  boundary : IsCharBoundary l.s l.end;
  order : l.at ≤ l.end;
}

abbrev pub decreases-loop-end : goal.decreases-loop-end
decreases-loop-end l = length l.s - l.end
