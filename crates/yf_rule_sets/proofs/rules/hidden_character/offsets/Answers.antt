use Rattle.yf_rule_sets.proofs.RuleSets.HiddenLemmas.{none_asked}
use Rattle.yf_rule_sets.proofs.rules.hidden_character.offsets.Goals as goal

pub returns-in-Plain : goal.returns-in-Plain
returns-in-Plain c = none_asked c.args.src.now.text c.args.reading.now c.args.style.now c.new.result.items c.new.ensures.items c.in-Plain.is
