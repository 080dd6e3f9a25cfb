-- The hunks of the script are those between the texts.
use Rattle.std.proofs.Common.{◌∙◌, ap}
use Rattle.std.specs.List.{concat}
use Rattle.std.proofs.lemmas.Result.{IfOk-weaker}
use Rattle.yf_diff.specs.Script.{news, olds}
use Rattle.yf_parts.proofs.DifferLemmas.{hunks_differ}
use Rattle.yf_parts.proofs.SpliceLemmas.{lines_joined}
use Rattle.yf_parts.proofs.hunks.hunks_between.Goals as goal

pub hunks_of-requires-clause-olds : goal.hunks_of-requires-clause-olds
hunks_of-requires-clause-olds c = ap (λ z. concat (olds z)) c.deref-3.ensures.value
    ∙ (ap concat (c.in_ok-steps.ensures.olds ∙ (c.deref.ensures.value ∙ c.in_ok-old_lines.ensures))
    ∙ lines_joined c.args.text.now)

pub hunks_of-requires-clause-news : goal.hunks_of-requires-clause-news
hunks_of-requires-clause-news c = ap (λ z. concat (news z)) c.deref-3.ensures.value
    ∙ (ap concat (c.in_ok-steps.ensures.news ∙ (c.deref-2.ensures.value ∙ c.in_ok-new_lines.ensures))
    ∙ lines_joined c.args.formatted.now)

pub returns : goal.returns
returns c =
    let old = ap olds c.deref-3.ensures.value ∙ (c.in_ok-steps.ensures.olds
    ∙ (c.deref.ensures.value ∙ c.in_ok-old_lines.ensures)) in
    let new = ap news c.deref-3.ensures.value ∙ (c.in_ok-steps.ensures.news
    ∙ (c.deref-2.ensures.value ∙ c.in_ok-new_lines.ensures)) in
    IfOk-weaker c.hunks_of.result _ _ (λ hunks is. hunks_differ hunks.items c.deref-3.result.now is old new)
    c.hunks_of.ensures
