use Rattle.yf_rule_sets.specs.RuleOf.{definition_of}
use Rattle.yf_rules.proofs.Findings.MendedFindings.{none_at_fault}
use Rattle.yf_rules.proofs.rules.StyleRuleRule.offsets.Goals as goal

pub returns-clause-mends : goal.returns-clause-mends
returns-clause-mends c =
    none_at_fault (definition_of c.args.self.now) c.args.src.now c.args.reading.now c.args.style.now (λ v. v.items) c.offsets_by.result (c.rules_are_mended.ensures c.args.self.now) c.offsets_by.ensures
