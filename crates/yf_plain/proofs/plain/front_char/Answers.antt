use Rattle.yf_plain.proofs.PlainLemmas.{forbidden_front, no_front}
use Rattle.yf_plain.proofs.plain.front_char.Goals as goal

pub returns-then-is_letter_at : goal.returns-then-is_letter_at
returns-then-is_letter_at c = let l = c.is_letter_at.ensures c.if-is_letter_at.true in (l.allowed, l.first c.args.ctx, l.reads)

pub returns-then-is_forbidden_at : goal.returns-then-is_forbidden_at
returns-then-is_forbidden_at c = forbidden_front c.if-is_forbidden_at.ensures

pub returns-in-None : goal.returns-in-None
returns-in-None c = no_front c.in-None.ensures
