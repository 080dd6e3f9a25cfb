use Rattle.std.proofs.Common.{sym, ◌∙◌}
use Rattle.yf_lines.proofs.BasicLemmas.{three_all, three_first, three_second}
use Rattle.yf_lines.proofs.basic.three_stand.Goals as goal

pub returns-then-is_char_at-2-clause-value : goal.returns-then-is_char_at-2-clause-value
returns-then-is_char_at-2-clause-value c =
    let e = c.is_char_at-then-is_char_at-2.ensures.value in
    e ∙ sym (three_all c.args.s.now c.args.at c.args.byte c.if-is_char_at.ensures.cases.char c.if-is_char_at-2.ensures.cases.char)

pub returns-then-is_char_at-clause-value : goal.returns-then-is_char_at-clause-value
returns-then-is_char_at-clause-value c = sym (three_second c.args.s.now c.args.at c.args.byte c.if-is_char_at.ensures.cases.char c.if-is_char_at-2.ensures.cases)

pub returns-clause-value : goal.returns-clause-value
returns-clause-value c = sym (three_first c.args.s.now c.args.at c.args.byte c.if-is_char_at.ensures.cases)
