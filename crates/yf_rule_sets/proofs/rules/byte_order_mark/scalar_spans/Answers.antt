use Rattle.std.proofs.Common.{arith}
use Rattle.yf_rule_sets.specs.RuleSets.Scalars.{ScalarSpan}
use Rattle.yf_rule_sets.proofs.Texts.ExactLemmas.{answer_found, all_found_upto}
use Rattle.yf_rule_sets.proofs.RuleSets.MarkPassLemmas.{span_event}
use Rattle.yf_rule_sets.proofs.rules.byte_order_mark.scalar_spans.Goals as goal

pub loop-i-preserved : goal.loop-i-preserved
loop-i-preserved c = answer_found (ScalarSpan c.args.reading.now) c.loop-i.i _ _ c.scalar_span.result c.loop-i.invariant c.scalar_span.ensures c.in_ok-push_found.ensures

pub returns : goal.returns
returns c =
    all_found_upto _ _ c.loop-i.i c.loop-i.spans.items c.loop-i.invariant (λ k x l p. p)
    (λ k x p. (let h = span_event p in omega (arith, h, c.len-i-end.ensures, c.loop-i-test.false), p))
