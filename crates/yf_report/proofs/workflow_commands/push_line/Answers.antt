use Rattle.yf_report.specs.Problems.{finding_of}
use Rattle.yf_report.proofs.CommandLemmas.{line_written}
use Rattle.yf_report.proofs.workflow_commands.push_line.Goals as goal

pub returns : goal.returns
returns c =
    line_written (finding_of c.args.problem.now) c.args.out.now.items c.in_ok-extend_from_slice.ensures.items
    c.in_ok-push_severity.ensures c.in_ok-extend_from_slice-2.ensures.items c.in_ok-push_value.ensures
    c.in_ok-push_file.ensures c.in_ok-push_range.ensures c.in_ok-extend_from_slice-3.ensures.items
    c.in_ok-push_message.ensures c.in_ok-extend_from_slice-4.ensures.items
