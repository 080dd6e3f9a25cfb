use Rattle.std.proofs.Common.{◌<◌, get_or, subst}
use Rattle.yf_plain.proofs.OrdinaryLemmas.{no_white_above}
use Rattle.yf_plain.proofs.ordinary.is_text_at.Goals as goal

pub returns-then-bytes-at-gt58 : goal.returns-then-bytes-at-gt58
returns-then-bytes-at-gt58 c = λ e. no_white_above c.args.s.now c.args.at c.utf8.s
    (subst (λ w. 58 < get_or w c.args.at 0) c.as_bytes-bytes.ensures.value c.if-bytes-at-gt58.true)
