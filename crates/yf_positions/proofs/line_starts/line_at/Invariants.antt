-- The line is from `low` on and before `high`.
use Rattle.std.proofs.Common.{◌<◌, ◌≤◌, ◌-◌, length}
use Rattle.yf_positions.specs.Lines.{line_start}
use Rattle.yf_positions.proofs.line_starts.line_at.Given as goal

abbrev pub invariant-loop-high : goal.invariant-loop-high
invariant-loop-high l = record {
  order : l.low < l.high;
  bound : l.high ≤ length l.starts;
  low : line_start l.bytes l.low ≤ l.offset;
  high : l.high < length l.starts → l.offset < line_start l.bytes l.high;
}

abbrev pub decreases-loop-high : goal.decreases-loop-high
decreases-loop-high l = l.high - l.low
