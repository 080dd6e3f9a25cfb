use Rattle.std.proofs.Common.{sym, ◌∙◌}
use Rattle.yf_forms.proofs.Texts.CommonWidths.{common_width}
use Rattle.yf_forms.proofs.Texts.WidthLemmas.{by_letter, by_two, by_four, by_itself}
use Rattle.yf_forms.proofs.text.width.spelled_width.Goals as goal

pub returns-then-is_common_char : goal.returns-then-is_common_char
returns-then-is_common_char c = sym (common_width c.args.c (sym c.is_common_char.ensures ∙ c.if-is_common_char.true))

pub returns-then-is_by_letter : goal.returns-then-is_by_letter
returns-then-is_by_letter c = sym (by_letter c.args.c (sym c.is_by_letter.ensures ∙ c.if-is_by_letter.true))

pub returns-then-is_by_two : goal.returns-then-is_by_two
returns-then-is_by_two c =
    sym (by_two c.args.c (sym c.is_by_letter.ensures ∙ c.if-is_by_letter.false) (sym c.is_by_two.ensures ∙ c.if-is_by_two.true))

pub returns-then-is_by_four : goal.returns-then-is_by_four
returns-then-is_by_four c =
    sym (by_four c.args.c (sym c.is_by_letter.ensures ∙ c.if-is_by_letter.false) (sym c.is_by_two.ensures ∙ c.if-is_by_two.false)
    (sym c.is_by_four.ensures ∙ c.if-is_by_four.true))

pub returns : goal.returns
returns c =
    sym (by_itself c.args.c (sym c.is_by_letter.ensures ∙ c.if-is_by_letter.false) (sym c.is_by_two.ensures ∙ c.if-is_by_two.false)
    (sym c.is_by_four.ensures ∙ c.if-is_by_four.false))
