use Rattle.std.proofs.Common.{sym, ◌∙◌}
use Rattle.yf_chars.proofs.HiddenLemmas.{hidden_besides, ignorable_hidden, low_shown}
use Rattle.yf_chars.proofs.hidden.is_hidden.Goals as goal

pub returns-then-c-lt133 : goal.returns-then-c-lt133
returns-then-c-lt133 c = sym (low_shown c.args.c c.if-c-lt133.true)

pub returns-then-is_default_ignorable_code_point : goal.returns-then-is_default_ignorable_code_point
returns-then-is_default_ignorable_code_point c =
    sym (ignorable_hidden c.args.c (sym c.is_default_ignorable_code_point.ensures ∙ c.if-is_default_ignorable_code_point.true))

pub returns : goal.returns
returns c =
    c.is_hidden_besides.ensures
    ∙ sym (hidden_besides c.args.c (sym c.is_default_ignorable_code_point.ensures ∙ c.if-is_default_ignorable_code_point.false))
