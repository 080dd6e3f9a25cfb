use Rattle.std.proofs.Common.{◌-◌, Some, sym, ap, ◌∙◌, arith}
use Rattle.yf_stream.proofs.LeafPass.LeafLemmas.{past_nothing}
use Rattle.yf_stream.proofs.LeafPass.LeafSearches.{leaf_found, none_more, none_yet, past_unleaved}
use Rattle.yf_stream.proofs.leaf_lines.last_leaf.Goals as goal

pub events-init : goal.events-init
events-init c = record { later = c.requires.order; within = omega arith; none = none_yet c.args.events.now c.args.end }

pub returns-then-begins_leaf : goal.returns-then-begins_leaf
returns-then-begins_leaf c =
    leaf_found (c.events.at - 1) (omega (arith, c.events-test.true)) (omega (arith, c.events-test.true)) (omega (arith, c.events-test.true, c.events.invariant.within))
    (c.span.ensures ∙ ap Some c.in-Some.is) (sym c.begins_leaf.ensures ∙ c.if-begins_leaf.true) c.events.invariant.none

pub events-preserved-in-Some : goal.events-preserved-in-Some
events-preserved-in-Some c = record {
  later = omega (arith, c.events-test.true);
  within = omega (arith, c.events.invariant.within);
  none = none_more (c.events.at - 1) (omega (arith, c.events-test.true))
      (λ found o. past_unleaved c.args.events.now (c.events.at - 1) found o c.span.ensures (sym c.begins_leaf.ensures ∙ c.if-begins_leaf.false)) c.events.invariant.none;
}

pub events-preserved : goal.events-preserved
events-preserved c = record {
  later = omega (arith, c.events-test.true);
  within = omega (arith, c.events.invariant.within);
  none = none_more (c.events.at - 1) (omega (arith, c.events-test.true))
      (λ found o. past_nothing c.args.events.now (c.events.at - 1) found o (c.span.ensures ∙ ap Some c.in_default.is)) c.events.invariant.none;
}
