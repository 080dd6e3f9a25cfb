use Rattle.std.proofs.Common.{refl}
use Rattle.yf_block.proofs.Ends.KeyEndLemmas.{key_cases, key_there, sign_boundary}
use Rattle.yf_block.proofs.look.key_ends.Goals as goal

pub returns-then-is_short_line-clause-cases : goal.returns-then-is_short_line-clause-cases
returns-then-is_short_line-clause-cases c = let s = c.if-is_sign_at.ensures.cases in key_there s (c.if-is_short_line.ensures refl (sign_boundary s))

pub returns-then-is_sign_at-clause-cases : goal.returns-then-is_sign_at-clause-cases
returns-then-is_sign_at-clause-cases c = let s = c.if-is_sign_at.ensures.cases in key_cases c.args.start _ s (c.is_key_line.ensures (sign_boundary s))
