use Rattle.std.proofs.Common.{◌++◌, ◌∷◌, [], ap, ◌∙◌}
use Rattle.std.proofs.lemmas.Result.{IfOk-equal}
use Rattle.yf_block.proofs.LineSteps.TiedScalar.{scalar_placed}
use Rattle.yf_block.proofs.Runs.WorkedLemmas.{if_worked}
use Rattle.yf_block.proofs.scalar.push_block.Goals as goal

pub returns-clause-events : goal.returns-clause-events
returns-clause-events c =
    IfOk-equal c.push.result _ _ _ (if_worked c.push.result _ _ c.push.ensures) (ap (λ z. c.args.part.now.events ++ z ∷ [])
    (scalar_placed c.args.lead.now c.args.block.now c.args.finish c.style_of-style.ensures (c.new.ensures ∙ c.in-Ok.ensures.content) c.in_ok-folded.ensures))
