use Rattle.std.proofs.lemmas.Result.{IfOk-weaker}
use Rattle.yf_program.specs.Reports.GivesScoped.{included}
use Rattle.yf_program.specs.Settings.{IsLeftOut}
use Rattle.yf_program.proofs.ReportLemmas.{not_left_out}
use Rattle.yf_program.proofs.report_inputs.give_scoped.Goals as goal

pub returns-in-Ok-false-clause-gives : goal.returns-in-Ok-false-clause-gives
returns-in-Ok-false-clause-gives g c =
    let stays : ¬ (IsLeftOut c.args.scope.now c.args.input.now) =
    not_left_out c.in-Ok-false.field-0 (IsLeftOut c.args.scope.now c.args.input.now) c.in-Ok-false.ensures c.in-Ok-false.field-0-test in
    IfOk-weaker c.give_input.result _ _ (λ status given. included stays given) c.give_input.ensures.gives
