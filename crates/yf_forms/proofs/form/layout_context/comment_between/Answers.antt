use Rattle.std.proofs.Common.{arith, map, subst}
use Rattle.yf_comments.specs.declared.comment.Comment.{Comment}
use Rattle.yf_forms.specs.Passes.Halving.{HalvesBetween}
use Rattle.yf_forms.proofs.Decide.IndexLemmas.{between_is}
use Rattle.yf_forms.proofs.form.layout_context.comment_between.Goals as goal

pub returns-clause-between : goal.returns-clause-between
returns-clause-between c = λ s. between_is c.args.comments.now c.args.from c.args.to _ _ s (omega arith) (omega arith) c.saturating_add.ensures c.first_near.ensures.within c.first_near.ensures.first

pub returns-clause-ends : goal.returns-clause-ends
returns-clause-ends c =
    subst (λ n. HalvesBetween (map (λ (x : Comment). x.offset) c.args.comments.now) n c.args.to c.first_near.result) c.saturating_add.ensures c.first_near.ensures.ends
