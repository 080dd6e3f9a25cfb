-- The rules up to the index found the problems.
use Rattle.std.proofs.Common.{map, take}
use Rattle.yf_server.specs.Analysis.{problem_read}
use Rattle.yf_problems.specs.Problems.{FoundBy}
use Rattle.yf_problems.proofs.problems.found_by_rules.Given as goal

abbrev pub invariant-loop-rule : goal.invariant-loop-rule
invariant-loop-rule l = FoundBy l.src l.reading l.style (take l.rule-index l.rules) (map problem_read l.problems.items)
