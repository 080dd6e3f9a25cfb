-- No character starts between here and the offset.
use Rattle.std.proofs.Common.{◌≡◌, ◌≤◌}
use Rattle.yf_positions.specs.Offsets.{character_start}
use Rattle.yf_positions.proofs.columns.character_start.Given as goal

abbrev pub invariant-loop-at : goal.invariant-loop-at
invariant-loop-at l = record {
  bound : l.at ≤ l.offset;
  same : character_start l.bytes l.at ≡ character_start l.bytes l.offset;
}

abbrev pub decreases-loop-at : goal.decreases-loop-at
decreases-loop-at l = l.at
