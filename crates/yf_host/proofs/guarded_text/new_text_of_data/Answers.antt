use Rattle.std.proofs.Common.{false}
use Rattle.std.proofs.lemmas.Result.{IfErr-weaker, IfOk-weaker}
use Rattle.yf_host.proofs.guarded_text.new_text_of_data.Goals as goal

pub returns-in-Ok-None-clause-formats : goal.returns-in-Ok-None-clause-formats
returns-in-Ok-None-clause-formats c =
    IfOk-weaker c.new_text_of.result _ _ (λ text is. (rw c.in-Ok-None.field-0-is at c.in-Ok-None.ensures.left, is)) c.new_text_of.ensures.formats

pub returns-in-Ok-None-clause-refuses : goal.returns-in-Ok-None-clause-refuses
returns-in-Ok-None-clause-refuses c = IfErr-weaker c.new_text_of.result _ _ (λ why refused. refused false) c.new_text_of.ensures.refuses
