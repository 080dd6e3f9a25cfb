use Rattle.std.proofs.Common.{sym, ◌∙◌, arith}
use Rattle.yf_chars.proofs.HiddenLemmas.{four_itself, low_itself, out_hidden}
use Rattle.yf_chars.proofs.hidden.is_spelled_out.Goals as goal

pub returns-then-c-le160 : goal.returns-then-c-le160
returns-then-c-le160 c = sym (low_itself c.args.c c.if-c-le160.true)

pub returns-then-is_by_four : goal.returns-then-is_by_four
returns-then-is_by_four c = sym (four_itself c.args.c (sym c.is_by_four.ensures ∙ c.if-is_by_four.true))

pub returns : goal.returns
returns c =
    c.is_hidden.ensures ∙ sym (out_hidden c.args.c c.if-c-le160.false (sym c.is_by_four.ensures ∙ c.if-is_by_four.false))
