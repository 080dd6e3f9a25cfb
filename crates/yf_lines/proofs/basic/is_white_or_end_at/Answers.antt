use Rattle.std.proofs.Common.{sym, ◌∙◌}
use Rattle.yf_chars.specs.Text.{code}
use Rattle.yf_chars.proofs.TextLemmas.{end_test}
use Rattle.yf_lines.proofs.BasicLemmas.{ends_by_white, ends_by_code, ends_at_lf, ends_at_cr, ends_not}
use Rattle.yf_lines.proofs.basic.is_white_or_end_at.Goals as goal

pub returns-then-is_white_at : goal.returns-then-is_white_at
returns-then-is_white_at c = sym (ends_by_white (code c.args.s.now c.args.at) (sym c.if-is_white_at.ensures.value))

pub returns-then-is_char_at : goal.returns-then-is_char_at
returns-then-is_char_at c = sym (ends_by_code (code c.args.s.now c.args.at) 10 c.if-is_char_at.ensures.cases.char ends_at_lf)

pub returns-then-is_char_at-2 : goal.returns-then-is_char_at-2
returns-then-is_char_at-2 c = sym (ends_by_code (code c.args.s.now c.args.at) 13 c.if-is_char_at-2.ensures.cases.char ends_at_cr)

pub returns : goal.returns
returns c =
    let t = c.args.s.now in
    end_test t c.args.at c.utf8.s c.requires
    ∙ sym (ends_not (code t c.args.at) (sym c.if-is_white_at.ensures.value) c.if-is_char_at.ensures.cases c.if-is_char_at-2.ensures.cases)
