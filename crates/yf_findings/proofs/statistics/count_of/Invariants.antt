use Rattle.std.proofs.Common.{◌≡◌, ◌≤◌, take}
use Rattle.yf_findings.specs.Statistics.{count_of}
use Rattle.yf_findings.proofs.statistics.count_of.Given as goal

abbrev pub invariant-loop-one : goal.invariant-loop-one
invariant-loop-one l = record {
  count : l.count ≡ count_of l.rule (take l.one-index l.found);
  few : l.count ≤ l.one-index;
}
