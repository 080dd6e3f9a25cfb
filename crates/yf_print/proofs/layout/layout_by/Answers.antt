use Rattle.std.proofs.Common.{◌∙◌, ap}
use Rattle.std.proofs.lemmas.Result.{IfOk-weaker}
use Rattle.yf_print.specs.Passes.PrintPass.{printed}
use Rattle.yf_print.specs.Passes.PrintWork.{work_of}
use Rattle.yf_print.proofs.layout.layout_by.Goals as goal

pub returns-clause-printed : goal.returns-clause-printed
returns-clause-printed c =
    IfOk-weaker c.text_of.result _ _ (λ layout h. h ∙ ap (λ w. printed (work_of c.args.text.now c.args.reading.now c.args.style.now c.args.measures c.args.forms w)) c.in_ok-trails.ensures)
    c.text_of.ensures.printed
