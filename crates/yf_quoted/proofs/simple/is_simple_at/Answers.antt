use Rattle.std.proofs.Common.{ap, sym, ◌∙◌, get_or, arith}
use Rattle.yf_quoted.specs.Ordinary.{is_ordinary}
use Rattle.yf_quoted.proofs.SimpleLemmas.{ordinary_at}
use Rattle.yf_quoted.proofs.simple.is_simple_at.Goals as goal

pub returns-then-at-bytes : goal.returns-then-at-bytes
returns-then-at-bytes c = λ e. ordinary_at c.args.s.now c.args.at c.utf8.s (omega (arith, c.as_bytes-bytes.ensures.len))
    (sym (ap (λ w. is_ordinary (get_or w c.args.at 0)) c.as_bytes-bytes.ensures.value) ∙ sym c.is_ordinary.ensures ∙ e)
