use Rattle.yf_rule_sets.specs.RuleSets.Exact.{UpTo}
use Rattle.yf_rule_sets.specs.RuleSets.Whites.{CloseComment}
use Rattle.yf_rule_sets.proofs.rules.comment_space.offsets.Given as goal

abbrev pub invariant-loop-k : goal.invariant-loop-k
invariant-loop-k l = UpTo (CloseComment l.src.text l.reading) l.k l.offsets.items
