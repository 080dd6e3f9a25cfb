-- The remaining bytes in the line are those of the remaining units.
use Rattle.std.proofs.Common.{◌≡◌, ◌+◌, ◌-◌, ◌≤◌, length, drop}
use Rattle.yf_positions.specs.Offsets.{bytes_within}
use Rattle.yf_positions.proofs.columns.offset_in.Given as goal

abbrev pub invariant-loop-at : goal.invariant-loop-at
invariant-loop-at l = record {
  bound : l.at ≤ length l.bytes;
  left : l.at + bytes_within l.encoding (drop l.at l.bytes) l.left
      ≡ l.fn.start + bytes_within l.encoding (drop l.fn.start l.bytes) l.fn.character;
}

abbrev pub decreases-loop-at : goal.decreases-loop-at
decreases-loop-at l = length l.bytes - l.at
