use Rattle.yf_rule_sets.proofs.RuleSets.MarkPassLemmas.{sole_kind}
use Rattle.yf_rule_sets.proofs.rules.byte_order_mark.loose_mark.Goals as goal

pub returns-then-reach-offset : goal.returns-then-reach-offset
returns-then-reach-offset c = sole_kind c.args.text.now c.args.reach c.args.offset c.if-is_mark_at.ensures c.if-reach-offset.true
