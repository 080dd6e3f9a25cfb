use Rattle.yf_rule_sets.specs.RuleSets.Documents.{NoMarkerLine}
use Rattle.yf_rule_sets.specs.RuleSets.Exact.{UpTo}
use Rattle.yf_rule_sets.proofs.rules.document_start.offsets.Given as goal

abbrev pub invariant-loop-k : goal.invariant-loop-k
invariant-loop-k l = UpTo (NoMarkerLine l.fn.src.text l.fn.reading l.fn.style) l.k l.offsets.items
