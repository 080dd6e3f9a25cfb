use Rattle.std.proofs.Common.{◌∙◌}
use Rattle.std.proofs.lemmas.Result.{IfOk-weaker}
use Rattle.yf_program.proofs.report_texts.add_guarded.Goals as goal

pub returns : goal.returns
returns c =
    IfOk-weaker c.add_found.result _ _
    (λ status d. (
      c.in_ok-all.all.items,
      c.in_ok-all.ensures,
      (d.0, d.1, (d.2.0, d.2.1 ∙ c.new.ensures.items, d.2.2), d.3),
    )) c.add_found.ensures
