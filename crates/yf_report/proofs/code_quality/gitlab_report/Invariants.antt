-- The problems so far are written and counted.
use Rattle.yf_report.proofs.QualityLemmas.{WrittenSoFar}
use Rattle.yf_report.proofs.code_quality.gitlab_report.Given as goal

abbrev pub invariant-loop-problem : goal.invariant-loop-problem
invariant-loop-problem l = WrittenSoFar l.out l.counts l.problem-index l.problems
