use Rattle.std.proofs.Common.{◌≡◌, drop}
use Rattle.std.specs.List.{list_any}
use Rattle.yf_findings.specs.Changes.{is_fixable}
use Rattle.yf_findings.proofs.changes.has_fixable.Given as goal

abbrev pub invariant-loop-problem : goal.invariant-loop-problem
invariant-loop-problem l = list_any is_fixable (drop l.problem-index l.problems) ≡ list_any is_fixable l.problems
