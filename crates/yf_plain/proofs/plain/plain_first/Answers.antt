use Rattle.std.proofs.Common.{sym, ◌∙◌}
use Rattle.yf_chars.specs.Class as Class
use Rattle.yf_plain.proofs.PlainLemmas.{sign_read, first_read, first_at_end, reads_code, indicator_first, char_first, no_char_first}
use Rattle.yf_plain.proofs.plain.plain_first.Goals as goal

pub returns-in-None : goal.returns-in-None
returns-in-None c = first_at_end c.args.s.now c.args.ctx c.args.at c.in-None.ensures.0

pub returns-then-is_safe_at : goal.returns-then-is_safe_at
returns-then-is_safe_at c =
    (sign_read c.args.ctx c.in-Some.ensures (sym c.is_sign.ensures ∙ c.if-is_sign.true) ∙ sym c.is_safe_at.ensures ∙ c.if-is_safe_at.true, reads_code c.in-Some.ensures)

pub returns-then-is_sign : goal.returns-then-is_sign
returns-then-is_sign c =
    sign_read c.args.ctx c.in-Some.ensures (sym c.is_sign.ensures ∙ c.if-is_sign.true) ∙ sym c.is_safe_at.ensures ∙ c.if-is_safe_at.false

pub returns-then-is_indicator : goal.returns-then-is_indicator
returns-then-is_indicator c =
    first_read c.args.ctx c.in-Some.ensures (sym c.is_sign.ensures ∙ c.if-is_sign.false)
    ∙ indicator_first (Class.is_ns_char c.in-Some.c) (sym c.is_indicator.ensures ∙ c.if-is_indicator.true)

pub returns-then-is_ns_char : goal.returns-then-is_ns_char
returns-then-is_ns_char c = (
  first_read c.args.ctx c.in-Some.ensures (sym c.is_sign.ensures ∙ c.if-is_sign.false)
      ∙ char_first (sym c.is_ns_char.ensures ∙ c.if-is_ns_char.true) (sym c.is_indicator.ensures ∙ c.if-is_indicator.false),
  reads_code c.in-Some.ensures,
)

pub returns-else-is_ns_char : goal.returns-else-is_ns_char
returns-else-is_ns_char c =
    first_read c.args.ctx c.in-Some.ensures (sym c.is_sign.ensures ∙ c.if-is_sign.false)
    ∙ no_char_first _ (sym c.is_ns_char.ensures ∙ c.if-is_ns_char.false)
