use Rattle.yf_report.specs.Problems.{finding_of}
use Rattle.yf_report.proofs.JsonLemmas.{added}
use Rattle.yf_report.proofs.QualityLemmas.{issue_written}
use Rattle.yf_report.proofs.code_quality.write_issue.Goals as goal

pub returns : goal.returns
returns c =
    issue_written (finding_of c.args.problem.now) c.args.mark.now c.gitlab_severity.result.now c.gitlab_severity.ensures
    (added c.in_ok-begin_object.ensures) c.in_ok-write_text.ensures c.in_ok-write_text-2.ensures
    c.in_ok-write_text-3.ensures c.in_ok-write_text-4.ensures c.in_ok-write_location.ensures
    (added c.in_ok-end_object.ensures)
