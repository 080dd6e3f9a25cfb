use Rattle.std.proofs.Common.{◌≡◌, Some, length, refl, ap, subst, arith}
use Rattle.std.specs.Prelude.{slice_get}
use Rattle.yf_lines.specs.Lines.{AreLines}
use Rattle.yf_rule_sets.proofs.Texts.ScalarPasses.{lines_after, no_lines_after}
use Rattle.yf_rule_sets.proofs.facts.flagged_lines.begin_from.Goals as goal

pub returns-then-line-len : goal.returns-then-line-len
returns-then-line-len c = λ q.
    let v = c.args.src.now in
    no_lines_after v.lines (length v.lines) c.args.line c.args.end refl (omega (arith, ap (λ w. length w.lines) c.lines-lines.ensures, c.len.ensures.count, c.if-line-len.true))

pub returns-then-end-line : goal.returns-then-end-line
returns-then-end-line c = λ q.
    let v = c.args.src.now in
    let a : AreLines v.text v.lines = subst (λ w. AreLines w.text w.lines) c.lines-lines.ensures c.line.ensures.lines in
    let e : slice_get v.lines c.args.line ≡ Some c.line.result = subst (λ w. slice_get w.lines c.args.line ≡ Some c.line.result) c.lines-lines.ensures c.line.ensures.item in
    lines_after v.text v.lines c.args.line c.args.end c.line.result a e c.if-end-line.true
