use Rattle.std.proofs.Common.{◌≡◌, ◌++◌, drop}
use Rattle.std.specs.List.{flat_map}
use Rattle.yf_findings.specs.LineForm.{line_after}
use Rattle.yf_findings.proofs.lines.push_lines.Given as goal

abbrev pub invariant-loop-problem : goal.invariant-loop-problem
invariant-loop-problem l =
    l.out.items ++ flat_map (line_after l.before) (drop l.problem-index l.problems) ≡ l.initial.out.items ++ flat_map (line_after l.before) l.problems
