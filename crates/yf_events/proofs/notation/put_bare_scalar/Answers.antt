use Rattle.std.proofs.Common.{◌∙◌}
use Rattle.yf_lines.proofs.OutputLemmas.{broke_first, broke_second}
use Rattle.yf_events.proofs.PutLemmas.{puts_second}
use Rattle.yf_events.proofs.notation.put_bare_scalar.Goals as goal

pub returns-then-not-put_text : goal.returns-then-not-put_text
returns-then-not-put_text g c = broke_first _ _ _ _ _ (rw (c.as_bytes.ensures.value ∙ c.bare_head.ensures) at c.if-not-put_text.ensures)

pub returns-then-not-put_escaped : goal.returns-then-not-put_escaped
returns-then-not-put_escaped g c =
    broke_second _ _ _ _ _ _ _ _ (rw (c.as_bytes.ensures.value ∙ c.bare_head.ensures) at c.if-not-put_text.ensures)
    (broke_first _ _ _ _ _ c.if-not-put_escaped.ensures)

pub returns : goal.returns
returns g c =
    puts_second _ _ _ _ _ _ _ _ _ (rw (c.as_bytes.ensures.value ∙ c.bare_head.ensures) at c.if-not-put_text.ensures)
    (puts_second _ _ _ _ _ _ _ _ _ c.if-not-put_escaped.ensures c.put_text-2.ensures)
