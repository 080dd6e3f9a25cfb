use Rattle.yf_rule_sets.specs.RuleSets.BlankLines.{MisplacedBlank}
use Rattle.yf_rule_sets.specs.RuleSets.Exact.{UpTo}
use Rattle.yf_rule_sets.proofs.rules.blank_lines.offsets.Given as goal

abbrev pub invariant-loop-k : goal.invariant-loop-k
invariant-loop-k l = UpTo (MisplacedBlank l.src l.reading) l.k l.offsets.items
