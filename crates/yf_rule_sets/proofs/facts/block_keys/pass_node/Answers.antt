use Rattle.std.proofs.Common.{refl, arith}
use Rattle.yf_rule_sets.proofs.RuleSets.BlockKeyLemmas.{role_passed}
use Rattle.yf_rule_sets.proofs.facts.block_keys.pass_node.Goals as goal

pub returns-in-Some-clause-stack : goal.returns-in-Some-clause-stack
returns-in-Some-clause-stack c =
    role_passed c.args.stack.now.items c.args.stack.now.len c.in-Some.last.now (omega (arith, c.args.stack.now.ok)) (c.in-Some.ensures.variant.0 refl) c.in-Some.ensures.value
    c.following.result c.following.ensures
