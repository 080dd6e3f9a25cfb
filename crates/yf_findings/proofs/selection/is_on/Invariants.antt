use Rattle.std.proofs.Common.{◌≡◌, drop}
use Rattle.std.specs.List.{list_any}
use Rattle.yf_findings.specs.Selection.{meets}
use Rattle.yf_findings.proofs.selection.is_on.Given as goal

abbrev pub invariant-loop-lines : goal.invariant-loop-lines
invariant-loop-lines l = list_any (meets l.problem.range) (drop l.lines-index l.asked) ≡ list_any (meets l.problem.range) l.asked
