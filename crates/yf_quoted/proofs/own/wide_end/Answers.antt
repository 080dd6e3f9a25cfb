use Rattle.yf_quoted.proofs.OwnLemmas.{wide_at}
use Rattle.yf_quoted.proofs.own.wide_end.Goals as goal

pub returns-then-is_wide : goal.returns-then-is_wide
returns-then-is_wide c = wide_at c.in-Some.ensures (c.is_wide.ensures c.if-is_wide.true)
