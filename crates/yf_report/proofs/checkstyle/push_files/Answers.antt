use Rattle.std.proofs.Common.{option_map, arith}
use Rattle.yf_report.proofs.CheckstyleLemmas.{files_more, files_end}
use Rattle.yf_report.proofs.checkstyle.push_files.Goals as goal

pub loop-problem-preserved : goal.loop-problem-preserved
loop-problem-preserved c =
    let l = c.loop-problem in
    files_more l.problem-index c.args.problems.now _ (option_map (λ s. s.now) l.last) c.name_or_stdin-name.result.now
    l.out.items (omega arith) c.name_or_stdin-name.ensures c.in_ok-push_change.ensures c.in_ok-push_error.ensures
    l.invariant

pub returns : goal.returns
returns c =
    let l = c.loop-problem in
    files_end l.problem-index c.args.problems.now (option_map (λ s. s.now) l.last) l.out.items (omega arith)
    c.in_ok-push_end.ensures l.invariant
