use Rattle.yf_report.specs.Fixes.{replaced}
use Rattle.yf_report.proofs.JsonLemmas.{added}
use Rattle.yf_report.proofs.SarifLemmas.{replacement_written}
use Rattle.yf_report.proofs.sarif.write_replacement.Goals as goal

pub returns : goal.returns
returns c =
    replacement_written (replaced c.args.replacement.now) (added c.in_ok-begin_object.ensures)
    c.in_ok-write_region.ensures c.in_ok-write_inserted.ensures (added c.in_ok-end_object.ensures)
