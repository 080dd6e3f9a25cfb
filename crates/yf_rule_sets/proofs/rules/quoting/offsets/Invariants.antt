use Rattle.yf_rule_sets.specs.RuleSets.Exact.{UpTo}
use Rattle.yf_rule_sets.specs.RuleSets.Styles.{QuotingFault}
use Rattle.yf_rule_sets.proofs.rules.quoting.offsets.Given as goal

abbrev pub invariant-loop-i : goal.invariant-loop-i
invariant-loop-i l = UpTo (QuotingFault l.src.text l.reading l.style) l.i l.offsets.items
