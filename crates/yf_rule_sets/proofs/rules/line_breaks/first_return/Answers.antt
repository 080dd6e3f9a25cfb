use Rattle.std.proofs.Common.{◌≡◌, true, false, Some, sym, ap, ◌∙◌, subst, eqb}
use Rattle.std.specs.Prelude.{slice_get}
use Rattle.yf_chars.specs.Text.{code}
use Rattle.yf_rule_sets.proofs.RuleSets.BreakLemmas.{return_later, return_here}
use Rattle.yf_rule_sets.proofs.rules.line_breaks.first_return.Goals as goal

pub returns-then-is_char_at : goal.returns-then-is_char_at
returns-then-is_char_at c =
    let v = c.args.src.now in
    let l = c.line-line.result in
    let e : slice_get v.lines c.loop-i.i ≡ Some l = subst (λ w. slice_get w.lines c.loop-i.i ≡ Some l) c.lines-lines.ensures c.line-line.ensures.item in
    let y : eqb (code v.text l.end) 13 ≡ true =
    ap (λ t. eqb (code t l.end) 13) (sym c.text-text.ensures) ∙ sym c.is_char_at.ensures.value ∙ c.if-is_char_at.true in
    c.loop-i.invariant ∙ return_here v.text v.lines c.loop-i.i l e y

pub loop-i-preserved : goal.loop-i-preserved
loop-i-preserved c =
    let v = c.args.src.now in
    let l = c.line-line.result in
    let e : slice_get v.lines c.loop-i.i ≡ Some l = subst (λ w. slice_get w.lines c.loop-i.i ≡ Some l) c.lines-lines.ensures c.line-line.ensures.item in
    let n : eqb (code v.text l.end) 13 ≡ false =
    ap (λ t. eqb (code t l.end) 13) (sym c.text-text.ensures) ∙ sym c.is_char_at.ensures.value ∙ c.if-is_char_at.false in
    c.loop-i.invariant ∙ return_later v.text v.lines c.loop-i.i l e n
