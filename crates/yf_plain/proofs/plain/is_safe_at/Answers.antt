use Rattle.std.proofs.Common.{sym, ap, ◌∙◌}
use Rattle.yf_chars.specs.Class as Class
use Rattle.yf_plain.proofs.PlainLemmas.{safe_at_end}
use Rattle.yf_plain.proofs.plain.is_safe_at.Goals as goal

pub returns-in-None : goal.returns-in-None
returns-in-None c = sym (ap (λ w. Class.is_plain_safe w c.args.ctx) c.in-None.ensures.0 ∙ safe_at_end c.args.ctx)
