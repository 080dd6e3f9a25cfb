use Rattle.std.proofs.Common.{arith}
use Rattle.yf_ranges.proofs.NodeLemmas.{all_nodes, no_nodes, step_node}
use Rattle.yf_ranges.proofs.quoting.details.Goals as goal
use Rattle.yf_rule_sets.proofs.RuleSets.StyleLemmas.{misquoted_event}

pub loop-i-init : goal.loop-i-init
loop-i-init c = no_nodes _ _ _ c.new-details.result.items c.new-details.ensures.items

pub loop-i-preserved : goal.loop-i-preserved
loop-i-preserved c = step_node _ _ _ c.loop-i.i _ _ c.misquoted.result c.loop-i.invariant c.misquoted.ensures c.in_ok-push_found.ensures

pub returns : goal.returns
returns c =
    let end = c.len-i-end.ensures in
    all_nodes _ _ _ c.loop-i.i c.loop-i.details.items (λ i o p. let h = misquoted_event p in omega (arith, h, end, c.loop-i-test.false)) c.loop-i.invariant
