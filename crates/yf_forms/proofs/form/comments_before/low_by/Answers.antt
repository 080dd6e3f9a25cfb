use Rattle.std.proofs.Common.{arith}
use Rattle.yf_forms.proofs.Decide.HalvingLemmas.{all_before}
use Rattle.yf_forms.proofs.form.comments_before.low_by.Goals as goal

pub returns-then-comments-near-clause-before : goal.returns-then-comments-near-clause-before
returns-then-comments-near-clause-before c =
    λ s k d a b. all_before c.args.comments.now _ c.args.offset _ s (omega arith) c.if-comments-near.true k d (omega (arith, b, c.if-near-gt0.true))
