use Rattle.yf_report.proofs.JsonLemmas.{added, adds_more}
use Rattle.yf_report.proofs.code_quality.write_position.Goals as goal

pub returns : goal.returns
returns c =
    adds_more (added c.in_ok-key.ensures) (adds_more (added c.in_ok-begin_object.ensures)
    (adds_more c.in_ok-write_number.ensures
    (adds_more c.in_ok-write_number-2.ensures (added c.in_ok-end_object.ensures))))
