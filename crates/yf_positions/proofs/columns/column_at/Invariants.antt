-- The units so far and those of the rest.
use Rattle.std.proofs.Common.{◌≡◌, ◌+◌, ◌-◌, ◌≤◌, drop}
use Rattle.yf_positions.specs.Offsets.{units_before}
use Rattle.yf_positions.proofs.columns.column_at.Given as goal

abbrev pub invariant-loop-at : goal.invariant-loop-at
invariant-loop-at l = record {
  bound : l.at ≤ l.offset;
  rest : l.units + units_before l.encoding (drop l.at l.bytes) (l.offset - l.at)
      ≡ units_before l.encoding (drop l.fn.start l.bytes) (l.offset - l.fn.start);
}

abbrev pub decreases-loop-at : goal.decreases-loop-at
decreases-loop-at l = l.offset - l.at
