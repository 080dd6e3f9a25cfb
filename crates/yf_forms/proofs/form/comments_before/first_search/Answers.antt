use Rattle.std.proofs.Common.{arith}
use Rattle.std.proofs.lemmas.List.Sorted.{IsNonDecreasingBy-from_all_adjacent}
use Rattle.yf_forms.proofs.Decide.HalvingLemmas.{rising_all, rising_first, rising_on}
use Rattle.yf_forms.proofs.form.comments_before.first_search.Goals as goal

pub loop-k-init : goal.loop-k-init
loop-k-init c = record { from = omega arith; rising = rising_first c.args.comments.now }

pub loop-k-preserved : goal.loop-k-preserved
loop-k-preserved c = record {
  from = omega arith;
  rising = rising_on c.args.comments.now c.loop-k.k _ _ c.loop-k.invariant.from c.loop-k-test.true c.if-comments-k.false c.loop-k.invariant.rising;
}

pub returns-clause-rising : goal.returns-clause-rising
returns-clause-rising c = λ e. IsNonDecreasingBy-from_all_adjacent (λ x. x.offset) c.args.comments.now (rising_all c.args.comments.now c.loop-k.k c.loop-k-test.false c.loop-k.invariant.rising)
