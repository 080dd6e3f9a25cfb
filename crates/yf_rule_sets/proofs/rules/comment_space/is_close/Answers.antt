use Rattle.yf_rule_sets.specs.RuleSets.Whites.IsClose.{close}
use Rattle.yf_rule_sets.proofs.Texts.WhitesLemmas.{at_line_start, at_two_spaces}
use Rattle.yf_rule_sets.proofs.rules.comment_space.is_close.Goals as goal

pub returns-then-is_line_start : goal.returns-then-is_line_start
returns-then-is_line_start c =
    at_line_start c.args.text.now c.args.offset c.whites_before-from.result c.whites_before-from.ensures.whites c.if-is_line_start.ensures

pub returns-then-are_two_spaces : goal.returns-then-are_two_spaces
returns-then-are_two_spaces c =
    at_two_spaces c.args.text.now c.args.offset c.whites_before-from.result c.whites_before-from.ensures.whites c.if-are_two_spaces.ensures

pub returns : goal.returns
returns c = close c.whites_before-from.ensures.whites c.if-is_line_start.ensures c.if-are_two_spaces.ensures
