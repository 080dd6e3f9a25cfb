use Rattle.yf_findings.proofs.FullLemmas.{walk_step}
use Rattle.yf_findings.proofs.full.push_file.Goals as goal

pub loop-problem-preserved : goal.loop-problem-preserved
loop-problem-preserved c =
    walk_step c.args.name.now c.loop-problem.due _ _ c.loop-problem.problem-index c.args.problems.now
    c.problem-item.result c.loop-problem.left.now _ _ _ _ _ c.loop-problem-test.true c.problem-item.is c.loop-problem.invariant
    c.is_due_before.ensures c.in_ok-push_due.ensures c.in_ok-push_problem.ensures
    c.due_after-due.ensures c.left_at-left.ensures
