use Rattle.std.proofs.Common.{ap, sym, ◌∙◌, get_or, arith}
use Rattle.yf_plain.specs.Ordinary.{is_letter}
use Rattle.yf_plain.proofs.OrdinaryLemmas.{letter_at}
use Rattle.yf_plain.proofs.ordinary.is_letter_at.Goals as goal

pub returns-then-at-bytes : goal.returns-then-at-bytes
returns-then-at-bytes c = λ e. letter_at c.args.s.now c.args.at c.utf8.s (omega (arith, c.as_bytes-bytes.ensures.len))
    (sym (ap (λ w. is_letter (get_or w c.args.at 0)) c.as_bytes-bytes.ensures.value) ∙ sym c.is_letter.ensures ∙ e)
