use Rattle.std.proofs.lemmas.Result.{IfOk-weaker}
use Rattle.yf_lines.specs.Text.{text_bytes}
use Rattle.yf_program.specs.Handling.{HandlesNear, IsHandled}
use Rattle.yf_program.proofs.HandlingLemmas.{near_handled}
use Rattle.yf_program.proofs.handling.handling_of.Goals as goal

pub returns-then-start : goal.returns-then-start
returns-then-start g c =
    let claim = g.I.Inputs.claim c.args.start.now.inputs.now in
    let scope = c.args.start.now.scope.now in
    let style = c.args.start.now.style.now in
    IfOk-weaker c.handling_near.result (HandlesNear claim scope.asks_any_text c.as_str.result.now)
    (IsHandled claim scope style c.args.uri.now)
    (near_handled claim scope style c.args.uri.now (text_bytes c.in-Some.path) c.as_str.result.now c.as_str.ensures
    (rw c.in-Some.is at c.in_ok-path_of.ensures) c.if-start.true) c.handling_near.ensures
