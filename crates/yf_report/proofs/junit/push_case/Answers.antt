use Rattle.yf_report.specs.Problems.{finding_of}
use Rattle.yf_report.proofs.JunitLemmas.{case_written}
use Rattle.yf_report.proofs.junit.push_case.Goals as goal

pub returns : goal.returns
returns c =
    case_written (finding_of c.args.problem.now) c.name_or_stdin.result.now c.args.out.now.items
    c.name_or_stdin.ensures c.in_ok-push_open.ensures c.in_ok-push_outcome.ensures c.in_ok-push_close.ensures
