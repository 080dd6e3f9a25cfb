use Rattle.std.proofs.Common.{◌≤◌}
use Rattle.yf_diagnose.proofs.look.whites_before.Given as goal

abbrev pub invariant-bytes : goal.invariant-bytes
invariant-bytes l = record {
  order : l.start ≤ l.at;
}

abbrev pub decreases-bytes : goal.decreases-bytes
decreases-bytes l = l.start
