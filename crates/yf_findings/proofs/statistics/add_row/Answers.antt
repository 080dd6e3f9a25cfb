use Rattle.std.proofs.Common.{◌≡◌, ◌∙◌, false, subst, sym}
use Rattle.std.specs.List.{list_any}
use Rattle.yf_findings.specs.Statistics.{is_row}
use Rattle.yf_findings.specs.Statistics.AddsRow.{added}
use Rattle.yf_findings.proofs.statistics.add_row.Goals as goal

pub returns : goal.returns
returns c =
    let none : list_any (is_row c.args.rule.now) c.args.rows.now.items ≡ false =
    subst (λ rows. list_any (is_row c.args.rule.now) rows ≡ false) c.as_slice.ensures.value (sym c.has_row.ensures ∙ c.if-has_row.false) in
    added none c.row_of.ensures.row c.row_of.ensures.rule c.in_ok-push.ensures.items
