-- One more try.
use Rattle.std.proofs.Common.{◌∙◌, ap, sym, subst}
use Rattle.yf_parts.specs.Attempts.{FailsAt}
use Rattle.yf_parts.specs.Tries.{Tried, around, first_try, next_try}
use Rattle.yf_parts.specs.declared.candidates.Reach.{Reach}
use Rattle.yf_parts.proofs.search.doubled.Goals as goal

pub loop-radius-init : goal.loop-radius-init
loop-radius-init c = first_try

pub loop-radius-preserved : goal.loop-radius-preserved
loop-radius-preserved c =
    let fails = rw c.in_default.is at c.in_ok-found.ensures.fails in
    next_try c.loop-radius.invariant fails

pub returns-in-Some-clause-works : goal.returns-in-Some-clause-works
returns-in-Some-clause-works c = let works = rw c.in-Some.is at c.in_ok-found.ensures.works in works

pub returns-in-Some-clause-tried : goal.returns-in-Some-clause-tried
returns-in-Some-clause-tried c =
    let reach = rw c.in-Some.is at c.in_ok-found.ensures.reach in
    subst (λ k. Tried (FailsAt c.args.context) k) (sym (ap (λ (r : Reach). r.before) reach)) c.loop-radius.invariant

pub returns-in-Some-clause-reach : goal.returns-in-Some-clause-reach
returns-in-Some-clause-reach c =
    let reach = rw c.in-Some.is at c.in_ok-found.ensures.reach in
    reach ∙ sym (ap (λ (r : Reach). around r.before r.before) reach)

pub returns-clause-tried : goal.returns-clause-tried
returns-clause-tried c = subst (λ k. Tried (FailsAt c.args.context) k)
    (sym (ap (λ (r : Reach). r.before) c.in_ok-all.ensures.reach)) c.loop-radius.invariant

pub returns-clause-reach : goal.returns-clause-reach
returns-clause-reach c = c.in_ok-all.ensures.reach
    ∙ sym (ap (λ (r : Reach). around r.before r.before) c.in_ok-all.ensures.reach)
