use Rattle.std.proofs.Common.{◌≡◌, ◌≢◌, pos, ap}
use Rattle.yf_comments.proofs.SeparateLemmas.{upto_first, upto_at_end, stuck_at_end, stuck_first}
use Rattle.yf_comments.proofs.separation.first_reach.Goals as goal

pub returns-in-Some-clause-reads : goal.returns-in-Some-clause-reads
returns-in-Some-clause-reads c = upto_first c.in-Some.ensures.reads.derived c.in-Some.ensures.all

pub returns-then-width-eq0-clause-reads : goal.returns-then-width-eq0-clause-reads
returns-then-width-eq0-clause-reads c = upto_at_end c.if-at-s.true (ap pos c.if-width-eq0.true)

pub returns-else-width-eq0-clause-reads : goal.returns-else-width-eq0-clause-reads
returns-else-width-eq0-clause-reads c =
    let apart : pos c.args.width ≢ pos 0 = λ e. let same : c.args.width ≡ 0 = cc in c.if-width-eq0.false same in
    stuck_at_end c.in-None.ensures.reads apart

pub returns-else-at-s-clause-reads : goal.returns-else-at-s-clause-reads
returns-else-at-s-clause-reads c = stuck_first c.in-None.ensures.reads c.if-at-s.false
