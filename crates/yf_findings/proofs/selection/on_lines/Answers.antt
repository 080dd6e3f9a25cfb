use Rattle.std.proofs.Common.{rules, sym, ◌∙◌}
use Rattle.std.proofs.lemmas.Fn.{filter_same}
use Rattle.yf_findings.proofs.SelectionLemmas.{some_asked}
use Rattle.yf_findings.proofs.selection.on_lines.Goals as goal

pub returns : goal.returns
returns c =
    some_asked _ _ _ (sym c.if-is_empty.false ∙ c.is_empty.ensures)
    (filter_same _ _ _ (λ x b f' k. search rules) _ _ c.retain.ensures.filtered)
