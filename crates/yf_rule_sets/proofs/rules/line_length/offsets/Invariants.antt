use Rattle.yf_rule_sets.specs.RuleSets.ByLine.{BeyondLimit}
use Rattle.yf_rule_sets.specs.RuleSets.Exact.{UpTo}
use Rattle.yf_rule_sets.proofs.rules.line_length.offsets.Given as goal

abbrev pub invariant-loop-k : goal.invariant-loop-k
invariant-loop-k l = UpTo (BeyondLimit l.src l.style.max_line) l.k l.offsets.items
