use Rattle.yf_rule_sets.specs.RuleSets.ByLine.{TrailingBlank}
use Rattle.yf_rule_sets.specs.RuleSets.Exact.{UpTo}
use Rattle.yf_rule_sets.proofs.rules.trailing_blanks.offsets.Given as goal

abbrev pub invariant-loop-k : goal.invariant-loop-k
invariant-loop-k l = UpTo (TrailingBlank l.src l.reading) l.k l.offsets.items
