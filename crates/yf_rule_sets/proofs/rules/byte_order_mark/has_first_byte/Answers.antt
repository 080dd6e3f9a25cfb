use Rattle.yf_rule_sets.proofs.RuleSets.MarkPassLemmas.{no_mark}
use Rattle.yf_rule_sets.proofs.rules.byte_order_mark.has_first_byte.Goals as goal

pub returns : goal.returns
returns c = no_mark _ _ c.utf8.text (rw c.as_bytes.ensures.value at c.contains.ensures.value)
