use Rattle.std.proofs.Common.{◌≡◌, ◌<◌, length, refl, arith}
use Rattle.yf_rule_sets.proofs.RuleSets.KeyPassLemmas.{last_is, last_set, node_passed}
use Rattle.yf_rule_sets.proofs.rules.repeated_keys.pass_node.Goals as goal

pub returns-in-Some : goal.returns-in-Some
returns-in-Some c =
    let xs = c.args.stack.now.items in
    let n = c.args.stack.now.len in
    let h : 0 < n = c.in-Some.ensures.variant.0 refl in
    let e : length xs ≡ n = omega (arith, c.args.stack.now.ok) in
    node_passed xs _ _ c.in-Some.collection.now c.turn.new.collection
    (last_is xs n c.in-Some.collection.now e h c.in-Some.ensures.value) (last_set xs n c.in-Some.collection.now e h c.in-Some.ensures.value c.turn.new.collection) c.turn.ensures.first c.turn.ensures.turned
