use Rattle.yf_lines.proofs.MarkLemmas.{match_marker}
use Rattle.yf_lines.proofs.table.is_forbidden_line.Goals as goal

pub returns : goal.returns
returns c =
    match_marker c.args.text.now c.args.start c.skip_marks-at.result c.is_marker_at.result c.skip_marks-at.ensures.marks c.is_marker_at.ensures
