-- The count and the errors still to be counted are all errors.
use Rattle.std.proofs.Common.{◌≡◌, ◌+◌, ◌≤◌, drop, map}
use Rattle.yf_report.specs.Problems.{finding_of}
use Rattle.yf_report.specs.Junit.{errors}
use Rattle.yf_report.proofs.junit.errors.Given as goal

abbrev pub invariant-loop-problem : goal.invariant-loop-problem
invariant-loop-problem l = record {
  count : l.count + errors (map finding_of (drop l.problem-index l.problems)) ≡ errors (map finding_of l.problems);
  bound : l.count ≤ l.problem-index;
}
