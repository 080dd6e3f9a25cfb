use Rattle.std.proofs.Common.{refl, true}
use Rattle.std.proofs.lemmas.Result.{IfErr-weaker, IfOk-weaker}
use Rattle.yf_host.proofs.guarded_text.GuardedTextFormatter.format.Goals as goal

pub returns-then-self-clause-formats : goal.returns-then-self-clause-formats
returns-then-self-clause-formats c =
    rw c.if-self.true (IfOk-weaker c.new_text_of.result _ _ (λ text is. (refl, is)) c.new_text_of.ensures.formats)

pub returns-then-self-clause-refuses : goal.returns-then-self-clause-refuses
returns-then-self-clause-refuses c =
    rw c.if-self.true (IfErr-weaker c.new_text_of.result _ _ (λ why refused. refused true) c.new_text_of.ensures.refuses)

pub returns-in-Formatted-clause-formats : goal.returns-in-Formatted-clause-formats
returns-in-Formatted-clause-formats c = rw (c.if-self.false, c.in-Formatted.is) c.formatting_of_data.ensures.formats

pub returns-in-Formatted-clause-refuses : goal.returns-in-Formatted-clause-refuses
returns-in-Formatted-clause-refuses c = rw c.if-self.false c.formatting_of_data.ensures.refuses

pub returns-in-Part-clause-formats : goal.returns-in-Part-clause-formats
returns-in-Part-clause-formats c = rw c.if-self.false c.new_text_of_data.ensures.formats

pub returns-in-Part-clause-refuses : goal.returns-in-Part-clause-refuses
returns-in-Part-clause-refuses c = rw c.if-self.false c.new_text_of_data.ensures.refuses
