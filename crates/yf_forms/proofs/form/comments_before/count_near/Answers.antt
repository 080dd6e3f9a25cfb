use Rattle.std.proofs.Common.{arith, ⊎_elim}
use Rattle.yf_forms.proofs.Decide.HalvingLemmas.{all_before, all_after}
use Rattle.yf_forms.proofs.Decide.HalvingEnds.{ends_at_point, all_halved, halved_after, halved_before}
use Rattle.yf_forms.specs.Passes.Halving.{none_left}
use Rattle.yf_forms.proofs.form.comments_before.count_near.Goals as goal

pub loop-low-init : goal.loop-low-init
loop-low-init c = record {
  order = c.high_by-high.ensures.near c.low_by-low.result c.low_by-low.ensures.near c.low_by-low.ensures.within;
  within = c.high_by-high.ensures.within;
  before = c.low_by-low.ensures.before;
  follows = c.high_by-high.ensures.follows;
  halved = λ l. all_halved c.args.comments.now c.args.offset _ _ (c.low_by-low.ensures.unknown l) (c.high_by-high.ensures.unknown l);
}

pub loop-low-preserved-then-comments-middle : goal.loop-low-preserved-then-comments-middle
loop-low-preserved-then-comments-middle c = record {
  order = omega arith;
  within = c.loop-low.invariant.within;
  before = λ s k d a b. all_before c.args.comments.now _ c.args.offset _ s (omega arith) c.if-comments-middle.true k d b;
  follows = c.loop-low.invariant.follows;
  halved = λ l end h. c.loop-low.invariant.halved l end
      (halved_after c.args.comments.now c.args.offset c.loop-low.low c.loop-low.high end _ c.loop-low-test.true c.loop-low.invariant.within c.if-comments-middle.true h);
}

pub loop-low-preserved : goal.loop-low-preserved
loop-low-preserved c = record {
  order = omega arith;
  within = omega arith;
  before = c.loop-low.invariant.before;
  follows = λ s k d a b. all_after c.args.comments.now _ c.args.offset _ s (omega arith) c.if-comments-middle.false k d a b;
  halved = λ l end h. c.loop-low.invariant.halved l end
      (halved_before c.args.comments.now c.args.offset c.loop-low.low c.loop-low.high end _ c.loop-low-test.true c.loop-low.invariant.within c.if-comments-middle.false h);
}

pub returns-clause-ends : goal.returns-clause-ends
returns-clause-ends c =
    ⊎_elim (λ u. c.loop-low.invariant.halved (omega arith) _ (none_left c.loop-low-test.false))
    (λ s.
    ends_at_point c.args.comments.now c.args.offset _ (omega arith)
    (c.loop-low.invariant.before s, λ k d a b. c.loop-low.invariant.follows s k d (omega (arith, a)) b))
    c.requires
