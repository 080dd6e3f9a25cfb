-- The texts so far are lost.
use Rattle.std.proofs.Common.{◌≤◌, ◌-◌, length}
use Rattle.yf_server.proofs.LossLemmas.{LostUpTo}
use Rattle.yf_server.proofs.loss.lose_each.Given as goal

abbrev pub invariant-loop-at : goal.invariant-loop-at
invariant-loop-at l = record {
  bound : l.at ≤ length l.documents.items;
  lost : LostUpTo l.fn.documents.items l.documents.items l.at;
}

abbrev pub decreases-loop-at : goal.decreases-loop-at
decreases-loop-at l = length l.documents.items - l.at
