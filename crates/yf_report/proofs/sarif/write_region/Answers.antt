use Rattle.yf_report.proofs.JsonLemmas.{added, adds_more}
use Rattle.yf_report.proofs.sarif.write_region.Goals as goal

pub returns : goal.returns
returns c =
    adds_more (added c.in_ok-key.ensures)
    (adds_more (added c.in_ok-begin_object.ensures)
    (adds_more c.in_ok-write_number.ensures
    (adds_more c.in_ok-write_number-2.ensures
    (adds_more c.in_ok-write_number-3.ensures
    (adds_more c.in_ok-write_number-4.ensures (added c.in_ok-end_object.ensures))))))
