use Rattle.std.proofs.Common.{sym, ap, ◌∙◌}
use Rattle.yf_chars.specs.Text.{code}
use Rattle.yf_lines.specs.Basic.Break.{cr_lf, lone_cr, lone_lf}
use Rattle.yf_lines.proofs.BasicLemmas.{no_break_inside}
use Rattle.yf_lines.proofs.basic.line_break.Goals as goal

pub returns-then-is_char_at-2-clause-reads : goal.returns-then-is_char_at-2-clause-reads
returns-then-is_char_at-2-clause-reads c = cr_lf c.if-is_char_at.ensures.cases.char c.if-is_char_at-2.ensures.cases.char

pub returns-then-is_char_at-clause-reads : goal.returns-then-is_char_at-clause-reads
returns-then-is_char_at-clause-reads c = lone_cr c.if-is_char_at.ensures.cases.char c.if-is_char_at-2.ensures.cases

pub returns-then-is_char_at-4-clause-reads : goal.returns-then-is_char_at-4-clause-reads
returns-then-is_char_at-4-clause-reads c =
    no_break_inside c.args.s.now c.args.at c.if-is_char_at-3.ensures.cases.char
    (ap (code c.args.s.now) (sym c.saturating_sub.ensures) ∙ c.if-is_char_at-4.ensures.cases.char)

pub returns-then-is_char_at-3-clause-reads : goal.returns-then-is_char_at-3-clause-reads
returns-then-is_char_at-3-clause-reads c =
    lone_lf c.if-is_char_at-3.ensures.cases.char
    (λ e. c.if-is_char_at-4.ensures.cases (ap (code c.args.s.now) c.saturating_sub.ensures ∙ e))
