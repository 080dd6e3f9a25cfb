use Rattle.std.proofs.Common.{length, ◌-◌}
use Rattle.std.specs.Str.{IsCharBoundary}
use Rattle.yf_chars.specs.Chain.{Chain}
use Rattle.yf_lines.specs.Lines.{OneLine, Apart}
use Rattle.yf_lines.specs.Rows.{lines_of}
use Rattle.yf_lines.proofs.table.LineTable.build.Given as goal

abbrev pub invariant-loop-at : goal.invariant-loop-at
invariant-loop-at l = record {
  lines : Chain (OneLine l.text) 0 l.at (lines_of l.text l.at l.rows.items);
  boundary : IsCharBoundary l.text l.at;
  apart : Apart l.text l.at;
}

abbrev pub decreases-loop-at : goal.decreases-loop-at
decreases-loop-at l = length l.text - l.at
