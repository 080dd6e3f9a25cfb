use Rattle.std.proofs.Common.{ℕ, List, ◌-◌, ◌≤◌, length}
use Rattle.std.specs.Str.{IsCharBoundary}
use Rattle.yf_chars.specs.Chain.{Many}
use Rattle.yf_chars.specs.Class.{is_nb_char}
use Rattle.yf_chars.proofs.nb_runs.skip_nb_chars.Given as goal

abbrev pub invariant-chars : goal.invariant-chars
invariant-chars l = record {
  run : (x : List ℕ) × Many l.s is_nb_char l.at l.end x;
  boundary : IsCharBoundary l.s l.end;
  order : l.at ≤ l.end;
}

abbrev pub decreases-chars : goal.decreases-chars
decreases-chars l = length l.s - l.end
