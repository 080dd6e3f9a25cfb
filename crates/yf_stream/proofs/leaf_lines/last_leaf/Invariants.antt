use Rattle.std.proofs.Common.{◌≤◌}
use Rattle.yf_stream.proofs.LeafPass.LeafSearches.{NoneFrom}
use Rattle.yf_stream.proofs.leaf_lines.last_leaf.Given as goal

abbrev pub invariant-events : goal.invariant-events
invariant-events l = record {
  later : l.start ≤ l.at;
  within : l.at ≤ l.end;
  none : NoneFrom l.events l.at l.end;
}

abbrev pub decreases-events : goal.decreases-events
decreases-events l = l.at
