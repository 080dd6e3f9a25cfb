use Rattle.std.proofs.Common.{ap, refl, rules, take}
use Rattle.std.specs.Prelude.{map}
use Rattle.yf_server.specs.Analysis.{problem_read}
use Rattle.yf_problems.proofs.ProblemLemmas.{all_found, next_found, none_found}
use Rattle.yf_problems.proofs.problems.found_by_rules.Goals as goal

pub loop-rule-init : goal.loop-rule-init
loop-rule-init c = none_found c.args.src.now c.args.reading.now c.args.style.now c.args.rules.now _ (ap (map problem_read) c.new-problems.ensures.items)

pub loop-rule-preserved : goal.loop-rule-preserved
loop-rule-preserved c = next_found c.args.src.now c.args.reading.now c.args.style.now c.args.rules.now c.loop-rule.rule-index _ _
    _ (search rules) refl (c.in_ok-add_rule.ensures (take c.loop-rule.rule-index c.args.rules.now) c.loop-rule.invariant)

pub returns : goal.returns
returns c = all_found c.args.src.now c.args.reading.now c.args.style.now c.args.rules.now c.loop-rule.rule-index (map problem_read c.loop-rule.problems.items) (search rules) c.loop-rule.invariant
