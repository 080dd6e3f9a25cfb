use Rattle.std.proofs.Common.{◌≡◌, ◌-◌, ◌∙◌, false, ap, sym, subst, Some}
use Rattle.std.specs.Prelude.{slice_get}
use Rattle.yf_chars.specs.Class.{is_white}
use Rattle.yf_chars.specs.Text.{code}
use Rattle.yf_rule_sets.proofs.Texts.LastLemmas.{empty_no_blank_end, last_no_blank_end, text_no_blank_end}
use Rattle.yf_rule_sets.proofs.rules.trailing_blanks.ends_in_white.Goals as goal

pub returns-then-ends_in_text : goal.returns-then-ends_in_text
returns-then-ends_in_text c = λ e. text_no_blank_end c.args.src.now c.args.k false (c.ends_in_text.ensures c.if-ends_in_text.true)

pub returns-then-line : goal.returns-then-line
returns-then-line c = λ f.
    let v = c.args.src.now in
    let l = c.line-line.result in
    let e : slice_get v.lines c.args.k ≡ Some l = subst (λ w. slice_get w.lines c.args.k ≡ Some l) c.lines.ensures c.line-line.ensures.item in
    empty_no_blank_end v c.args.k l e c.if-line.true

pub returns : goal.returns
returns c = λ f.
    let v = c.args.src.now in
    let l = c.line-line.result in
    let e : slice_get v.lines c.args.k ≡ Some l = subst (λ w. slice_get w.lines c.args.k ≡ Some l) c.lines.ensures c.line-line.ensures.item in
    let n : is_white (code v.text (l.end - 1)) ≡ false = ap (λ t. is_white (code t (l.end - 1))) (sym c.text.ensures) ∙ sym c.is_white_at.ensures.value ∙ f in
    last_no_blank_end v c.args.k l e n
