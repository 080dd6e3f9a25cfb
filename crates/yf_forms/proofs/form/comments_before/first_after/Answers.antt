use Rattle.yf_forms.proofs.Decide.CommentCounts.{count_on, count_at, count_end}
use Rattle.yf_forms.proofs.form.comments_before.first_after.Goals as goal

pub returns-then-offset-comments : goal.returns-then-offset-comments
returns-then-offset-comments c =
    count_at c.args.comments.now c.args.from c.loop-k.k c.args.offset _ c.loop-k-test.true c.if-offset-comments.true c.loop-k.invariant

pub loop-k-preserved : goal.loop-k-preserved
loop-k-preserved c =
    count_on c.args.comments.now c.args.from c.loop-k.k c.args.offset _ c.loop-k-test.true c.if-offset-comments.false c.loop-k.invariant

pub returns : goal.returns
returns c = count_end c.args.comments.now c.args.from c.loop-k.k c.args.offset c.loop-k-test.false c.loop-k.invariant
