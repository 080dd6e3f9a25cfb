use Rattle.yf_plain.proofs.OrdinaryLemmas.{feed_ends, colon_space, colon_feed}
use Rattle.yf_plain.proofs.ordinary.is_end_at.Goals as goal

pub returns-then-is_char_at : goal.returns-then-is_char_at
returns-then-is_char_at c = λ e. feed_ends c.args.s.now c.args.at c.if-is_char_at.ensures.cases.char

pub returns-then-is_char_at-3 : goal.returns-then-is_char_at-3
returns-then-is_char_at-3 c = λ e. colon_space c.args.s.now c.args.at c.if-is_char_at-2.ensures.cases.char c.if-is_char_at-3.ensures.cases.char

pub returns-then-is_char_at-4 : goal.returns-then-is_char_at-4
returns-then-is_char_at-4 c = λ e. colon_feed c.args.s.now c.args.at c.if-is_char_at-2.ensures.cases.char c.if-is_char_at-4.ensures.cases.char
