use Rattle.std.proofs.Common.{arith}
use Rattle.yf_forms.proofs.Decide.HalvingLemmas.{all_after}
use Rattle.yf_forms.proofs.form.comments_before.high_by.Goals as goal

pub returns-then-offset-comments-clause-follows : goal.returns-then-offset-comments-clause-follows
returns-then-offset-comments-clause-follows c =
    λ s k d a b. all_after c.args.comments.now _ c.args.offset _ s (omega arith) c.if-offset-comments.true k d a b
