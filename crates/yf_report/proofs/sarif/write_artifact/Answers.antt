use Rattle.yf_report.proofs.JsonLemmas.{added, adds_more}
use Rattle.yf_report.proofs.sarif.write_artifact.Goals as goal

pub returns : goal.returns
returns c =
    adds_more (added c.in_ok-key.ensures)
    (adds_more (added c.in_ok-begin_object.ensures)
    (adds_more c.in_ok-write_text.ensures (added c.in_ok-end_object.ensures)))
