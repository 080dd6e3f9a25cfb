-- The written lines and those still to be written are all lines.
use Rattle.std.proofs.Common.{◌≡◌, ◌++◌, drop, map}
use Rattle.yf_report.specs.Problems.{finding_of}
use Rattle.yf_report.specs.CommandText.{lines_text}
use Rattle.yf_report.proofs.workflow_commands.push_lines.Given as goal

abbrev pub invariant-loop-problem : goal.invariant-loop-problem
invariant-loop-problem l =
    l.out.items ++ lines_text l.errors
    (map finding_of (drop l.problem-index l.problems)) ≡ l.initial.out.items ++ lines_text l.errors
    (map finding_of l.problems)
