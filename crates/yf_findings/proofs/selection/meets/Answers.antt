use Rattle.std.proofs.Common.{◌≤◌, subst}
use Rattle.yf_findings.proofs.SelectionLemmas.{meeting}
use Rattle.yf_findings.proofs.selection.meets.Goals as goal

pub returns-clause-some : goal.returns-clause-some
returns-clause-some c =
    λ _. meeting c.args.range c.args.lines c.if-lines.false
    (subst (λ n. c.args.lines.first ≤ n) c.last_line-last.ensures.exact c.if-last-lines.false) c.if-lines-range.false
    (subst (λ n. c.args.range.line ≤ n) c.last_line-last.ensures.exact c.last_line-last.ensures.order)
