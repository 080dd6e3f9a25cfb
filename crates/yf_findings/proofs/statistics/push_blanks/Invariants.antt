use Rattle.std.proofs.Common.{◌≡◌, ◌++◌}
use Rattle.yf_findings.specs.Statistics.{blanks}
use Rattle.yf_findings.proofs.statistics.push_blanks.Given as goal

abbrev pub invariant-loop : goal.invariant-loop
invariant-loop l = l.out.items ≡ l.initial.out.items ++ blanks l.counter
