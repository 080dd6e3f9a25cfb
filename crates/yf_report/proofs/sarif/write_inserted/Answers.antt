use Rattle.std.proofs.Common.{sym, ◌∙◌}
use Rattle.yf_report.proofs.SarifLemmas.{inserted_some}
use Rattle.yf_report.proofs.sarif.write_inserted.Goals as goal

pub returns : goal.returns
returns c =
    inserted_some c.args.text.now (sym c.is_empty.ensures ∙ c.if-is_empty.false) c.in_ok-write_message.ensures
