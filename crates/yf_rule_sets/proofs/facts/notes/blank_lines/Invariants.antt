use Rattle.yf_rule_sets.proofs.RuleSets.BlankLemmas.{BlankTo}
use Rattle.yf_rule_sets.proofs.facts.notes.blank_lines.Given as goal

abbrev pub invariant-loop-k : goal.invariant-loop-k
invariant-loop-k l = BlankTo l.src l.reading l.initial.list.items l.list.items l.k
