use Rattle.std.proofs.Common.{ap, sym, ◌∙◌, ◌-◌, get_or}
use Rattle.yf_chars.specs.Class.{is_between}
use Rattle.yf_quoted.proofs.SimpleLemmas.{allowed_after}
use Rattle.yf_quoted.proofs.simple.text_ends.Goals as goal

pub returns : goal.returns
returns c = λ e. allowed_after c.args.s.now c.args.at c.utf8.s c.if-at-eq0.false c.requires
    (sym (ap (λ w. is_between 0x20 0x7E (get_or w (c.args.at - 1) 0)) c.as_bytes-bytes.ensures.value) ∙ sym c.is_visible.ensures ∙ e)
