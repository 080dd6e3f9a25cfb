use Rattle.yf_rule_sets.specs.RuleSets.Exact.{UpTo}
use Rattle.yf_rule_sets.specs.RuleSets.Scalars.{ScalarSpan}
use Rattle.yf_rule_sets.proofs.rules.byte_order_mark.scalar_spans.Given as goal

abbrev pub invariant-loop-i : goal.invariant-loop-i
invariant-loop-i l = UpTo (ScalarSpan l.reading) l.i l.spans.items
