use Rattle.std.proofs.Common.{◌∙◌, rules, sym}
use Rattle.yf_findings.proofs.FullLemmas.{last_row, next_row, no_rows}
use Rattle.yf_findings.proofs.full_changes.push_rows.Goals as goal

pub returns-then-is_empty : goal.returns-then-is_empty
returns-then-is_empty c =
    no_rows _ c.loop-count.rest.now _ _ (sym c.is_empty.ensures ∙ c.if-is_empty.true) c.loop-count.invariant

pub loop-count-preserved : goal.loop-count-preserved
loop-count-preserved c =
    next_row c.loop-count.count c.loop-count.rest.now _ _ _ _ _ c.loop-count-test.true
    (sym c.is_empty.ensures ∙ c.if-is_empty.false) c.loop-count.invariant c.in_ok-push_row.ensures (search rules)
    (c.after_line-rest.ensures c.line_end-end.ensures.count)

pub returns : goal.returns
returns c =
    last_row c.push_more.result c.loop-count.count c.loop-count.rest.now _ _ _ c.loop-count-test.false
    c.loop-count.invariant c.push_more.ensures
