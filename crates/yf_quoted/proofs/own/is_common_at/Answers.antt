use Rattle.std.proofs.Common.{ap, sym, ◌∙◌, get_or, arith}
use Rattle.yf_chars.specs.Common.{is_common}
use Rattle.yf_quoted.proofs.OwnLemmas.{common_at}
use Rattle.yf_quoted.proofs.own.is_common_at.Goals as goal

pub returns-then-at-bytes : goal.returns-then-at-bytes
returns-then-at-bytes c = λ e. common_at c.args.text.now c.args.at c.utf8.text (omega (arith, c.as_bytes-bytes.ensures.len))
    (sym (ap (λ w. is_common (get_or w c.args.at 0)) c.as_bytes-bytes.ensures.value) ∙ sym c.is_common.ensures ∙ e)
