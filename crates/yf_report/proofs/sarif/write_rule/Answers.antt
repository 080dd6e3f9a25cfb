use Rattle.yf_report.specs.Sarif.{described}
use Rattle.yf_report.proofs.JsonLemmas.{added}
use Rattle.yf_report.proofs.SarifLemmas.{rule_written}
use Rattle.yf_report.proofs.sarif.write_rule.Goals as goal

pub returns : goal.returns
returns c =
    rule_written (described c.args.rule.now) (added c.in_ok-begin_object.ensures) c.in_ok-write_text.ensures
    c.in_ok-write_message.ensures c.in_ok-write_message-2.ensures (added c.in_ok-end_object.ensures)
