use Rattle.std.proofs.Common.{sym, true≢false}
use Rattle.yf_rule_sets.proofs.RuleSets.HiddenLemmas.{no_sign_inside, sign_there}
use Rattle.yf_rule_sets.proofs.rules.hidden_character.hidden_at.Goals as goal

pub returns-then-not-is_char_boundary : goal.returns-then-not-is_char_boundary
returns-then-not-is_char_boundary c = no_sign_inside c.args.text.now c.args.reach c.args.offset (λ b. true≢false (sym (c.if-not-is_char_boundary.ensures.test.1 b)))

pub returns-then-is_hidden_sign : goal.returns-then-is_hidden_sign
returns-then-is_hidden_sign c =
    sign_there c.args.text.now c.args.reach c.args.offset c.in-Some.c c.in-Some.ensures.char c.if-is_hidden_sign.ensures c.if-offset-reach.false
