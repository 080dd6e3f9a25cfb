use Rattle.std.proofs.Common.{refl}
use Rattle.std.proofs.lemmas.Result.{IfOk-weaker}
use Rattle.yf_findings.proofs.FileLemmas.{one_report}
use Rattle.yf_findings.proofs.files.report_of.Goals as goal

pub returns : goal.returns
returns c =
    IfOk-weaker c.report.result _ _
    (λ b is. one_report c.args.format c.args.files.now b.items _ _ c.in_ok-problems.problems.items refl
    c.as_slice-2.ensures.value c.in_ok-problems.ensures.entries
    c.in_ok-problems.ensures.fixes is)
    c.report.ensures
