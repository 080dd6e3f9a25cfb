use Rattle.std.proofs.Common.{length, ap, sym, ◌∙◌}
use Rattle.yf_lines.proofs.RowLemmas.{length_lines}
use Rattle.yf_lines.proofs.table.LineTable.len.Goals as goal

pub returns-clause-count : goal.returns-clause-count
returns-clause-count c =
    let t = c.self.inside.text.now in
    ap length c.as_slice.ensures.value ∙ sym (length_lines t (length t) c.self.inside.rows.items) ∙ ap (λ v. length v.lines) c.self.view_is
