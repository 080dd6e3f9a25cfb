use Rattle.std.proofs.Common.{◌≡◌, ◌<◌, length, refl, arith}
use Rattle.std.specs.Prelude.{slice_get}
use Rattle.std.proofs.lemmas.Result.{IfOk-weaker}
use Rattle.yf_rule_sets.proofs.RuleSets.KeyPassLemmas.{last_is, last_set, scalar_passed}
use Rattle.yf_rule_sets.proofs.rules.repeated_keys.pass_scalar.Goals as goal

pub returns-in-Some : goal.returns-in-Some
returns-in-Some c =
    let xs = c.args.stack.now.items in
    let n = c.args.stack.now.len in
    let h : 0 < n = c.in-Some.ensures.variant.0 refl in
    let e : length xs ≡ n = omega (arith, c.args.stack.now.ok) in
    let v = c.in-Some.ensures.value in
    IfOk-weaker c.turn_scalar.result _ _
    (λ hit g. scalar_passed xs _ _ c.in-Some.collection.now c.turn_scalar.new.collection (last_is xs n c.in-Some.collection.now e h v)
    (last_set xs n c.in-Some.collection.now e h v c.turn_scalar.new.collection) _ _ (c.args.text.now, slice_get c.args.reading.now.resolved c.args.i) hit g)
    c.turn_scalar.ensures
