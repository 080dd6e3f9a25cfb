-- The parts that are left decide whether all are ranges, and give the ranges that are left.
use Rattle.std.proofs.Common.{◌≡◌, ◌++◌, drop, map}
use Rattle.std.specs.List.{list_all}
use Rattle.yf_line_ranges.specs.Written.{are_ranges, is_range, range_of, ranges_in}
use Rattle.yf_line_ranges.proofs.read.add_ranges.Given as goal

abbrev pub invariant-loop-part : goal.invariant-loop-part
invariant-loop-part l = record {
  decided : list_all is_range (drop l.part-index (map (λ part. part.now) l.part-items)) ≡ are_ranges l.text;
  added : l.ranges.items ++ map range_of (drop l.part-index (map (λ part. part.now) l.part-items))
      ≡ l.initial.ranges.items ++ ranges_in l.text;
}
