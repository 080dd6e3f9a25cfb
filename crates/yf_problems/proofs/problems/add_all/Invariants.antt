-- The problems that there are, and those of the details that are left, are all.
use Rattle.std.proofs.Common.{◌≡◌, ◌++◌, drop, map}
use Rattle.yf_server.specs.Analysis.{problem_read}
use Rattle.yf_problems.specs.Problems.{problem_named}
use Rattle.yf_problems.proofs.problems.add_all.Given as goal

abbrev pub invariant-loop-detail : goal.invariant-loop-detail
invariant-loop-detail l =
    map problem_read l.problems.items ++ map (problem_named l.id) (drop l.detail-index l.details)
    ≡ map problem_read l.fn.problems.items ++ map (problem_named l.id) l.details
