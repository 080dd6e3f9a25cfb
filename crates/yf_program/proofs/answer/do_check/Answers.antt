use Rattle.std.proofs.Common.{◌∙◌, ap, sym}
use Rattle.yf_program.specs.Forms.{form_of}
use Rattle.yf_program.proofs.AnswerLemmas.{checked_at_once, checked_in_report}
use Rattle.yf_program.proofs.answer.do_check.Goals as goal

pub returns-then-at_once : goal.returns-then-at_once
returns-then-at_once g c =
    let form = c.form_of-form.result in
    let same = c.form_of-form.ensures ∙ ap (λ named. form_of c.args.check.printing c.args.scope.now.terminal named c.args.explain) c.is_named-named.ensures in
    checked_at_once _ c.args.check c.args.scope.now c.args.explain c.args.style form same _ _ _
    (sym c.checks_at_once-at_once.ensures ∙ c.if-at_once.true) c.do_inputs.ensures

pub returns : goal.returns
returns g c =
    let form = c.form_of-form.result in
    let same = c.form_of-form.ensures ∙ ap (λ named. form_of c.args.check.printing c.args.scope.now.terminal named c.args.explain) c.is_named-named.ensures in
    checked_in_report _ c.args.check c.args.scope.now c.args.explain c.args.style form same _ _ _
    (sym c.checks_at_once-at_once.ensures ∙ c.if-at_once.false) c.report_new.ensures
