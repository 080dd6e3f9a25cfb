use Rattle.std.proofs.Common.{true, false, ◌++◌, map, ap, ◌∙◌}
use Rattle.yf_report.specs.Problems.{finding_of}
use Rattle.yf_report.specs.CommandText.{lines_text}
use Rattle.yf_report.proofs.CommandLemmas.{report_back}
use Rattle.yf_report.proofs.workflow_commands.github_report.Goals as goal

pub returns : goal.returns
returns c =
    let fs = map finding_of c.args.problems.now in
    report_back fs c.push_lines-2.new.out.items
    (c.in_ok-push_lines-2.ensures
    ∙ ap (λ l. l ++ lines_text false fs)
    (c.in_ok-push_lines.ensures ∙ ap (λ l. l ++ lines_text true fs) c.new-out.ensures.items))
