use Rattle.std.proofs.Common.{◌∙◌}
use Rattle.yf_rule_sets.proofs.RuleSets.KeyListLemmas.{same_pairs}
use Rattle.yf_rule_sets.proofs.rules.repeated_keys.is_same.Goals as goal

pub returns : goal.returns
returns c = c.eq.ensures ∙ same_pairs c.args.a.text.now c.args.b.text.now c.args.a.tag c.args.b.tag
