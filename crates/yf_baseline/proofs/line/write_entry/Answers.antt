use Rattle.yf_report.proofs.JsonLemmas.{added}
use Rattle.yf_baseline.proofs.LineTextLemmas.{entry_written}
use Rattle.yf_baseline.proofs.line.write_entry.Goals as goal

pub returns : goal.returns
returns c =
    entry_written c.args.entry.now c.as_str.ensures c.as_str-2.ensures c.as_str-3.ensures (added c.in_ok-begin_object.ensures) c.in_ok-write_text.ensures
    c.in_ok-write_text-2.ensures c.in_ok-write_number.ensures c.in_ok-write_text-3.ensures
    (added c.in_ok-end_object.ensures)
