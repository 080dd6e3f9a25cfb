use Rattle.std.proofs.Common.{◌∙◌, ap, sym}
use Rattle.yf_program.specs.Forms.{form_of, reporting}
use Rattle.yf_program.proofs.AnswerLemmas.{compared_at_once, compared_in_report}
use Rattle.yf_program.proofs.answer.do_compare.Goals as goal

pub returns-then-at_once : goal.returns-then-at_once
returns-then-at_once g c =
    let form = c.form_of-form.result in
    let same = c.form_of-form.ensures ∙ ap (λ named. form_of (reporting c.args.output) c.args.scope.now.terminal named c.args.explain) c.is_named-named.ensures in
    compared_at_once _ c.args.inputs c.args.output c.args.scope.now c.args.explain c.args.style form same _ _ _
    (sym c.writes_at_once-at_once.ensures ∙ c.if-at_once.true) c.do_inputs.ensures

pub returns : goal.returns
returns g c =
    let form = c.form_of-form.result in
    let same = c.form_of-form.ensures ∙ ap (λ named. form_of (reporting c.args.output) c.args.scope.now.terminal named c.args.explain) c.is_named-named.ensures in
    compared_in_report _ c.args.inputs c.args.output c.args.scope.now c.args.explain c.args.style form same _ _ _
    c.explains_in.result c.explains_in.ensures (sym c.writes_at_once-at_once.ensures ∙ c.if-at_once.false) c.report_inputs.ensures
