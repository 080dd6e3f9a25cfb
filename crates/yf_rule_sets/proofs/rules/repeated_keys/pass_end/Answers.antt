use Rattle.std.proofs.Common.{◌≡◌, ◌-◌, ◌∙◌, ◌∷◌, [], ap, length, arith, take}
use Rattle.std.specs.Prelude.{slice_get}
use Rattle.std.proofs.lemmas.List.{length-append}
use Rattle.yf_rule_sets.proofs.RuleSets.KeyListLemmas.{last_same}
use Rattle.yf_rule_sets.proofs.RuleSets.KeyPassLemmas.{end_passed}
use Rattle.yf_rule_sets.proofs.rules.repeated_keys.pass_end.Goals as goal

pub returns-in-Some-pop : goal.returns-in-Some-pop
returns-in-Some-pop c =
    let xs = c.args.stack.now.items in
    let rest = c.pop.new.self.items in
    let popped = c.in-Some-pop.field-0 in
    let p = c.in-Some-pop.ensures.items in
    let n : length rest ≡ length xs - 1 = omega (arith, ap length p, length-append rest (popped ∷ [])) in
    let e = last_same xs rest c.in-Some.collection.now popped p n (c.in-Some.ensures.value ∙ ap (λ ys. slice_get ys (length ys - 1)) c.deref.ensures.value) in
    end_passed xs rest popped _ _ p (c.truncate.ensures.items ∙ ap (λ a. take a.first c.args.keys.now.items) e)
