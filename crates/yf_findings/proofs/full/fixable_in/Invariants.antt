use Rattle.std.proofs.Common.{◌≡◌, ◌≤◌, map, take}
use Rattle.std.specs.List.{count_by}
use Rattle.yf_findings.specs.Full.{is_fixable}
use Rattle.yf_findings.specs.Statistics.{found_value}
use Rattle.yf_findings.proofs.full.fixable_in.Given as goal

abbrev pub invariant-loop-one : goal.invariant-loop-one
invariant-loop-one l = record {
  count : l.count ≡ count_by is_fixable (map found_value (take l.one-index l.found));
  few : l.count ≤ l.one-index;
}
