use Rattle.std.proofs.Common.{ap, sym, ◌∙◌, Some, length}
use Rattle.std.proofs.lemmas.Option.{slice_get-get_or}
use Rattle.yf_lines.proofs.RowLemmas.{got_line, line_by_end}
use Rattle.yf_lines.proofs.packed_lines.line_at.Goals as goal

pub returns : goal.returns
returns c =
    let t = c.args.text.now in
    let rs = c.args.rows.now in
    got_line t (length t) rs c.args.i _ (slice_get-get_or rs c.args.i _ c.requires)
    ∙ ap Some (line_by_end t _ _ c.start_after-next.result c.text_end.result (sym c.start_after-next.ensures) c.text_end.ensures)
