use Rattle.std.proofs.Common.{refl, inl, arith}
use Rattle.yf_ranges.proofs.FlowDetailLemmas.{no_details}
use Rattle.yf_ranges.proofs.NodeLemmas.{all_nodes, no_nodes, step_node}
use Rattle.yf_ranges.proofs.flow_layout.details.Goals as goal
use Rattle.yf_rule_sets.proofs.RuleSets.DisplacedLemmas.{displaced_within}

pub returns-then-not-has_brackets : goal.returns-then-not-has_brackets
returns-then-not-has_brackets c = λ trees of order.
    no_details _ _ _ c.new-details.result.items c.new-details.ensures.items (λ i o p. c.has_brackets.ensures c.if-not-has_brackets.true c.args.style.now i o p)

pub loop-i-init : goal.loop-i-init
loop-i-init c = λ trees of order. (
  no_nodes _ _ _ c.new-details.result.items c.new-details.ensures.items,
  record { bound = λ j y m g h. absurd (omega (arith, h)); reached = inl refl },
)

pub loop-i-preserved : goal.loop-i-preserved
loop-i-preserved c = λ trees of order.
    let v = c.loop-i.invariant trees of order in
    let m = c.in_ok-measures.ensures.measured order in (
      step_node _ _ _ c.loop-i.i _ _ c.in_ok-displaced.field-0 v.0 (c.in_ok-displaced.ensures trees of m v.1) c.in_ok-push_found.ensures,
      c.past_flow-done.ensures.alone _ _ trees of m v.1,
    )

pub returns : goal.returns
returns c = λ trees of order.
    let end = c.len-i-end.ensures in
    all_nodes _ _ _ c.loop-i.i c.loop-i.details.items (λ i o p. let h = displaced_within p in omega (arith, h, end, c.loop-i-test.false))
    (c.loop-i.invariant trees of order).0
