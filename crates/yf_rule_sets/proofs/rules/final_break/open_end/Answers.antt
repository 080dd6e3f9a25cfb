use Rattle.yf_rule_sets.specs.Sets.WithoutFinalBreak.{of_empty_text, has_break, no_break}
use Rattle.yf_rule_sets.proofs.rules.final_break.open_end.Goals as goal

pub returns-then-len-eq0 : goal.returns-then-len-eq0
returns-then-len-eq0 c = of_empty_text c.if-len-eq0.true

pub returns-then-break_ends : goal.returns-then-break_ends
returns-then-break_ends c = has_break c.if-break_ends.ensures.1

pub returns : goal.returns
returns c = no_break c.if-len-eq0.false c.if-break_ends.ensures
