use Rattle.yf_laws.proofs.RulesMended.{rule_mended}
use Rattle.yf_laws.proofs.every_text.rules_are_mended.Goals as goal

pub returns : goal.returns
returns c = rule_mended
