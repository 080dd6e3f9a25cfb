use Rattle.std.proofs.Common.{arith}
use Rattle.yf_lines.proofs.BasicLemmas.{break_from_lf, break_from_cr}
use Rattle.yf_lines.proofs.basic.break_ends.Goals as goal

pub returns-then-is_char_at : goal.returns-then-is_char_at
returns-then-is_char_at c = break_from_lf c.args.s.now c.args.at (omega arith) c.if-is_char_at.ensures.cases.char

pub returns-then-is_char_at-2 : goal.returns-then-is_char_at-2
returns-then-is_char_at-2 c =
    break_from_cr c.args.s.now c.args.at (omega arith) c.if-is_char_at-2.ensures.cases.char c.if-is_char_at-3.ensures.cases
