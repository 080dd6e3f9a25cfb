use Rattle.std.proofs.Common.{sym, ◌∙◌}
use Rattle.std.proofs.lemmas.Result.{IfOk-weaker}
use Rattle.std.proofs.lemmas.Option.{same_Some}
use Rattle.yf_forms.proofs.form.measure.pass_at.Goals as goal

pub returns-in-Some-clause-passed : goal.returns-in-Some-clause-passed
returns-in-Some-clause-passed c =
    IfOk-weaker c.pass.result _ _ (λ _ h e s a b. rw (same_Some _ _ (sym a ∙ c.in-Some.ensures), same_Some _ _ (sym b ∙ c.span-span.ensures)) h) c.pass.ensures.passed

pub returns-in-Some-clause-utf8 : goal.returns-in-Some-clause-utf8
returns-in-Some-clause-utf8 c = IfOk-weaker c.pass.result _ _ (λ _ h e a. rw (same_Some _ _ (sym a ∙ c.in-Some.ensures)) h) c.pass.ensures.utf8

pub returns-in-None-clause-passed : goal.returns-in-None-clause-passed
returns-in-None-clause-passed c =
    IfOk-weaker c.pass-in-None.result _ _ (λ _ h e s a b. rw (same_Some _ _ (sym a ∙ c.event.ensures), same_Some _ _ (sym b ∙ c.span-span.ensures)) h)
    c.pass-in-None.ensures.passed

pub returns-in-None-clause-utf8 : goal.returns-in-None-clause-utf8
returns-in-None-clause-utf8 c = IfOk-weaker c.pass-in-None.result _ _ (λ _ h e a. rw (same_Some _ _ (sym a ∙ c.event.ensures)) h) c.pass-in-None.ensures.utf8
