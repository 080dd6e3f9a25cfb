use Rattle.std.proofs.Common.{ℕ, ◌<◌, ◌≤◌}
use Rattle.yf_lines.specs.Basic.{Break}
use Rattle.yf_stream.proofs.leaf_lines.line_start.Given as goal

abbrev pub invariant-chars : goal.invariant-chars
invariant-chars l = record {
  order : l.start ≤ l.at;
  last : (h j : ℕ) → l.start < j → j ≤ l.at → Break l.text h j → ⊥;
}

abbrev pub decreases-chars : goal.decreases-chars
decreases-chars l = l.start
