use Rattle.yf_ranges.specs.NodeDetails.{QuotingDetail}
use Rattle.yf_ranges.proofs.NodeLemmas.{NodesTo}
use Rattle.yf_ranges.proofs.quoting.details.Given as goal
use Rattle.yf_rule_sets.specs.RuleSets.Styles.{QuotingFault}

abbrev pub invariant-loop-i : goal.invariant-loop-i
invariant-loop-i l =
    NodesTo (QuotingFault l.src.text l.reading l.style) (QuotingDetail l.src.text l.reading l.style) l.src.text l.i l.details.items
