use Rattle.std.proofs.Common.{refl, rules, subst}
use Rattle.yf_problems.specs.Problems.ShownFor.{with_values, without_values}
use Rattle.yf_ranges.specs.Known.{IsRuleDetail}
use Rattle.yf_problems.proofs.values.with_value.Goals as goal

pub returns-in-Some : goal.returns-in-Some
returns-in-Some c = λ reading style k.
    let src = c.args.src.now in
    let offset = c.args.detail.now.span.start in
    with_values (subst (IsRuleDetail c.args.rule src reading style offset) c.in-Some.is
    (c.at.ensures src reading style k (search rules)))

pub returns-in-None : goal.returns-in-None
returns-in-None c = λ reading style k.
    let src = c.args.src.now in
    let offset = c.args.detail.now.span.start in
    without_values (subst (IsRuleDetail c.args.rule src reading style offset) c.in-None.is
    (c.at.ensures src reading style k (search rules))) refl
