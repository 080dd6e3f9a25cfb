use Rattle.std.proofs.Common.{◌≡◌, ◌∙◌, None, Some, ap, inl}
use Rattle.std.proofs.lemmas.Result.{IfOk-weaker}
use Rattle.yf_lines.specs.declared.fault.Fault.TheVariants as fault
use Rattle.yf_program.specs.Handling.{HandlesNear, unset_words}
use Rattle.yf_program.specs.declared.handling.Handling.TheVariants as handling
use Rattle.yf_program.proofs.HandlingLemmas.{near_with}
use Rattle.yf_program.proofs.handling.handling_near.Goals as goal

pub returns-in-Settings : goal.returns-in-Settings
returns-in-Settings g c =
    near_with (g.I.Inputs.claim c.args.inputs.now) (Some c.in-Settings.name) c.args.asks_any_text c.args.path.now
    c.in_ok-found.found c.in-Settings.is c.in_ok-found.ensures c.handling_with.result c.handling_with.ensures

pub returns-in-Nothing : goal.returns-in-Nothing
returns-in-Nothing g c =
    near_with (g.I.Inputs.claim c.args.inputs.now) None c.args.asks_any_text c.args.path.now
    c.in_ok-found.found c.in-Nothing.is c.in_ok-found.ensures c.handling_with-in-Nothing.result
    c.handling_with-in-Nothing.ensures

pub returns-in-Fault : goal.returns-in-Fault
returns-in-Fault g c =
    IfOk-weaker c.unset_by.result (λ h. h ≡ handling.Unset (unset_words c.as_str.result.now fault.ReadFailed))
    (HandlesNear (g.I.Inputs.claim c.args.inputs.now) c.args.asks_any_text c.args.path.now)
    (λ h is. inl (
      c.in-Fault.name,
      rw c.in-Fault.is at c.in_ok-found.ensures,
      is ∙ ap (λ n. handling.Unset (unset_words n fault.ReadFailed)) c.as_str.ensures,
    )) c.unset_by.ensures
