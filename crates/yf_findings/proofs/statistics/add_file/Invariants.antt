use Rattle.std.proofs.Common.{◌≡◌, ◌++◌, drop, map}
use Rattle.yf_findings.specs.Statistics.{found_value, kinds_of}
use Rattle.yf_findings.proofs.statistics.add_file.Given as goal

abbrev pub invariant-loop-problem : goal.invariant-loop-problem
invariant-loop-problem l =
    map found_value l.found.items ++ kinds_of (drop l.problem-index l.problems) ≡ map found_value l.initial.found.items ++ kinds_of l.problems
