-- The problems so far are findings.
use Rattle.std.proofs.Common.{◌≡◌, drop}
use Rattle.std.specs.List.{list_all}
use Rattle.yf_findings.specs.LineForm.{is_finding}
use Rattle.yf_findings.proofs.selection.has_refusal.Given as goal

abbrev pub invariant-loop-problem : goal.invariant-loop-problem
invariant-loop-problem l = list_all is_finding (drop l.problem-index l.problems) ≡ list_all is_finding l.problems
