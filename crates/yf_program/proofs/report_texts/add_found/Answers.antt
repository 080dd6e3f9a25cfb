use Rattle.std.proofs.Common.{◌∙◌, ap, sym}
use Rattle.yf_host.specs.Report.{check_status}
use Rattle.yf_program.specs.Reports.{asked_problems, has_problem}
use Rattle.yf_program.proofs.report_texts.add_found.Goals as goal

pub returns-in-Ok : goal.returns-in-Ok
returns-in-Ok c =
    let d = c.in-Ok.ensures in
    let same = c.as_slice.ensures.value in
    let ended = c.status_of-status.ensures ∙ ap (λ ps. check_status (has_problem ps)) (same ∙ sym d.2.0) in
    let asked = c.in_ok-kept.ensures ∙ ap (λ n. asked_problems c.args.work.now n c.args.problems.items) (sym d.1) in
    (d.0, d.1, (d.2.0 ∙ asked, d.2.1, ended), d.3)
