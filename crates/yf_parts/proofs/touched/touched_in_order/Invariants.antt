-- The flags so far, and those of the remaining hunks.
use Rattle.std.proofs.Common.{◌≡◌, ◌++◌, ◌≤◌, drop, take, length, true}
use Rattle.std.specs.Prelude.{map}
use Rattle.yf_line_ranges.specs.Ranges.{all_before}
use Rattle.yf_parts.specs.Asked.{touched_by}
use Rattle.yf_parts.proofs.touched.touched_in_order.Given as goal

abbrev pub invariant-loop-hunk : goal.invariant-loop-hunk
invariant-loop-hunk l = record {
  within : l.from ≤ length l.asked;
  before : all_before (take l.from l.asked) l.line ≡ true;
  all : l.flags.items ++ map (touched_by l.asked) (drop l.hunk-index l.hunks) ≡ map (touched_by l.asked) l.hunks;
}
