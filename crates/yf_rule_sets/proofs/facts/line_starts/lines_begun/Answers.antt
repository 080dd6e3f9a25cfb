use Rattle.std.proofs.Common.{◌≡◌, ◌≤◌, Some, length, ap, subst, arith}
use Rattle.std.specs.Prelude.{slice_get}
use Rattle.yf_lines.specs.Lines.{AreLines}
use Rattle.yf_rule_sets.proofs.Texts.BegunLemmas.{begun_at, begun_all}
use Rattle.yf_rule_sets.proofs.facts.line_starts.lines_begun.Goals as goal

pub returns-then-line-offset-clause-begun : goal.returns-then-line-offset-clause-begun
returns-then-line-offset-clause-begun c =
    let v = c.args.src.now in
    let a : AreLines v.text v.lines = subst (λ w. AreLines w.text w.lines) c.lines-lines.ensures c.line.ensures.lines in
    let e : slice_get v.lines c.loop-at.at ≡ Some c.line.result = subst (λ w. slice_get w.lines c.loop-at.at ≡ Some c.line.result) c.lines-lines.ensures c.line.ensures.item in
    begun_at v.text v.lines c.args.offset c.loop-at.at c.line.result a c.loop-at.invariant e c.if-line-offset.true

pub returns-clause-begun : goal.returns-clause-begun
returns-clause-begun c =
    let v = c.args.src.now in
    let a : AreLines v.text v.lines = subst (λ w. AreLines w.text w.lines) c.lines-lines.ensures c.len.ensures.lines in
    let n : length v.lines ≤ c.loop-at.at = omega (arith, ap (λ w. length w.lines) c.lines-lines.ensures, c.len.ensures.count, c.loop-at-test.false) in
    begun_all v.text v.lines c.args.offset c.loop-at.at a c.loop-at.invariant n
