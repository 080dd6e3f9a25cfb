use Rattle.yf_report.specs.Problems.{note_of}
use Rattle.yf_report.proofs.JsonLemmas.{added, place_written}
use Rattle.yf_report.proofs.problems_json.write_place.Goals as goal

pub returns : goal.returns
returns c =
    place_written (note_of c.args.place.now) (added c.in_ok-key.ensures) (added c.in_ok-begin_object.ensures)
    c.in_ok-write_range.ensures c.in_ok-write_text.ensures (added c.in_ok-end_object.ensures)
