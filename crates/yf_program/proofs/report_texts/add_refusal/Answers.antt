use Rattle.std.proofs.Common.{◌∙◌, ◌++◌, ◌∷◌, [], ap}
use Rattle.std.proofs.lemmas.Result.{IfOk-weaker}
use Rattle.yf_program.proofs.report_texts.add_refusal.Goals as goal

pub returns : goal.returns
returns c =
    let listed = c.in_ok-push.ensures.items ∙ ap (λ ps. ps ++ c.in_ok-problem.problem ∷ []) c.new-problems.ensures.items in
    IfOk-weaker c.add.result _ _
    (λ done d. (
      d.0,
      d.1,
      record {
        problem = c.in_ok-problem.problem;
        is = c.in_ok-problem.ensures;
        only = d.2.0
            ∙ listed;
        unchanged = d.2.1 ∙ c.new.ensures.items;
      },
      d.3,
    )) c.add.ensures
