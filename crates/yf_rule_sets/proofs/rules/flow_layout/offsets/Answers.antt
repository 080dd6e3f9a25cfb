use Rattle.std.proofs.Common.{arith}
use Rattle.yf_rule_sets.specs.RuleSets.Layouts.{LayoutFault}
use Rattle.yf_rule_sets.proofs.RuleSets.DisplacedLemmas.{displaced_within}
use Rattle.yf_rule_sets.proofs.Texts.ExactLemmas.{all_found_upto, answer_found}
use Rattle.yf_rule_sets.proofs.rules.flow_layout.offsets.Goals as goal

pub loop-i-preserved : goal.loop-i-preserved
loop-i-preserved c = λ trees of order.
    let v = c.loop-i.invariant trees of order in
    let m = c.in_ok-measures.ensures.measured order in (
      answer_found (LayoutFault c.args.src.now c.args.reading.now c.args.style.now) c.loop-i.i _ _ c.in_ok-displaced.field-0 v.0
          (c.in_ok-displaced.ensures trees of m v.1) c.in_ok-push_found.ensures,
      c.past_flow-done.ensures.alone _ _ trees of m v.1,
    )

pub returns : goal.returns
returns c = λ trees of order.
    all_found_upto _ _ c.loop-i.i c.loop-i.offsets.items (c.loop-i.invariant trees of order).0 (λ k x l p. p)
    (λ k x p. (let h = displaced_within p in omega (arith, h, c.len-i-end.ensures, c.loop-i-test.false), p))
