use Rattle.std.proofs.Common.{sym, ◌∙◌}
use Rattle.yf_forms.proofs.Texts.WidthLemmas.{by_few, by_many, not_out}
use Rattle.yf_forms.proofs.text.width.spelled_out_width.Goals as goal

pub returns-then-c-lt65536 : goal.returns-then-c-lt65536
returns-then-c-lt65536 c = sym (by_few c.args.c (sym c.is_spelled_out.ensures ∙ c.if-is_spelled_out.true) c.if-c-lt65536.true)

pub returns-then-is_spelled_out : goal.returns-then-is_spelled_out
returns-then-is_spelled_out c = sym (by_many c.args.c (sym c.is_spelled_out.ensures ∙ c.if-is_spelled_out.true) c.if-c-lt65536.false)

pub returns : goal.returns
returns c = c.spelled_width.ensures ∙ sym (not_out c.args.c (sym c.is_spelled_out.ensures ∙ c.if-is_spelled_out.false))
