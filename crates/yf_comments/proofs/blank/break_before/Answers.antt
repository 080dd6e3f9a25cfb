use Rattle.std.proofs.Common.{ap, ◌∙◌, sym, arith}
use Rattle.yf_chars.specs.Text.{code}
use Rattle.yf_comments.proofs.BlankLemmas.{break_of_two, break_of_lf, break_of_cr}
use Rattle.yf_comments.proofs.blank.break_before.Goals as goal

pub returns-then-is_char_at-2 : goal.returns-then-is_char_at-2
returns-then-is_char_at-2 c =
    break_of_two c.args.s.now c.args.at (omega arith)
    (ap (code c.args.s.now) (sym c.saturating_sub.ensures) ∙ c.if-is_char_at-2.ensures.cases.char) c.if-is_char_at.ensures.cases.char

pub returns-then-is_char_at : goal.returns-then-is_char_at
returns-then-is_char_at c =
    break_of_lf c.args.s.now c.args.at (omega arith)
    (λ e. c.if-is_char_at-2.ensures.cases (ap (code c.args.s.now) c.saturating_sub.ensures ∙ e)) c.if-is_char_at.ensures.cases.char

pub returns-then-is_char_at-3 : goal.returns-then-is_char_at-3
returns-then-is_char_at-3 c =
    break_of_cr c.args.s.now c.args.at (omega arith) c.if-is_char_at-4.ensures.cases c.if-is_char_at-3.ensures.cases.char
