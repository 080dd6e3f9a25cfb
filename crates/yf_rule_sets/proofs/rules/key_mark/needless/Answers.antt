use Rattle.std.proofs.Common.{◌∙◌, ap, sym}
use Rattle.yf_forms.specs.declared.form.decide.Form.{Form}
use Rattle.yf_rule_sets.proofs.RuleSets.NeedlessLemmas.{if_marked, not_implicit, not_outside}
use Rattle.yf_rule_sets.proofs.rules.key_mark.needless.Goals as goal

pub returns-then-i-done : goal.returns-then-i-done
returns-then-i-done c = λ house trees k d. not_outside c.args.src.now c.args.reading.now house trees c.args.i c.args.done d c.if-i-done.true

pub returns-then-at : goal.returns-then-at
returns-then-at c = λ house trees k d.
    if_marked c.args.src.now c.args.reading.now house trees c.args.i c.args.done d c.args.forms.now k c.mark_of.result c.if-i-done.false
    (ap (λ (f : Form). f.is_implicit) (sym c.at.ensures) ∙ c.if-at.true) c.mark_of.ensures

pub returns : goal.returns
returns c = λ house trees k d.
    not_implicit c.args.src.now c.args.reading.now house trees c.args.i c.args.done d c.args.forms.now k (ap (λ (f : Form). f.is_implicit) (sym c.at.ensures) ∙ c.if-at.false)
