use Rattle.std.proofs.Common.{inr}
use Rattle.std.proofs.lemmas.Result.{IfOk-weaker}
use Rattle.yf_program.specs.Handling.{HandlesBy, HandlesWith}
use Rattle.yf_program.proofs.handling.handling_with.Goals as goal

pub returns-in-Ok : goal.returns-in-Ok
returns-in-Ok g c =
    IfOk-weaker c.handling_by.result
    (HandlesBy c.args.config.now c.in-Ok.settings c.args.asks_any_text c.args.path.now)
    (HandlesWith (g.I.Inputs.claim c.args.inputs.now) c.args.config.now c.args.asks_any_text c.args.path.now)
    (λ h by. inr (c.in-Ok.settings, c.in-Ok.ensures, by)) c.handling_by.ensures
