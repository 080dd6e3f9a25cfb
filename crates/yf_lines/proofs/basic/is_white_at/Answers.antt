use Rattle.std.proofs.Common.{sym, ◌∙◌}
use Rattle.yf_chars.specs.Text.{code}
use Rattle.yf_lines.proofs.BasicLemmas.{white_of_space, white_only_tab, match_white}
use Rattle.yf_lines.proofs.basic.is_white_at.Goals as goal

pub returns-then-is_char_at-clause-value : goal.returns-then-is_char_at-clause-value
returns-then-is_char_at-clause-value c = sym (white_of_space (code c.args.s.now c.args.at) c.if-is_char_at.ensures.cases.char)

pub returns-clause-value : goal.returns-clause-value
returns-clause-value c = c.is_char_at-2.ensures.value ∙ sym (white_only_tab (code c.args.s.now c.args.at) c.if-is_char_at.ensures.cases)

pub returns-clause-read : goal.returns-clause-read
returns-clause-read c = match_white c.args.s.now c.args.at c.is_char_at-2.result c.utf8.s (returns-clause-value c)
