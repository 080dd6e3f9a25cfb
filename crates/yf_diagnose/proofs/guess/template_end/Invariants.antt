use Rattle.std.proofs.Common.{◌≤◌, ◌-◌, length}
use Rattle.yf_diagnose.proofs.guess.template_end.Given as goal

abbrev pub invariant-bytes : goal.invariant-bytes
invariant-bytes l = record {
  order : l.at ≤ l.here;
}

abbrev pub decreases-bytes : goal.decreases-bytes
decreases-bytes l = length l.text - l.here
