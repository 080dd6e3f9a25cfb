use Rattle.std.proofs.Common.{arith, ◌∙◌, sym}
use Rattle.yf_events.proofs.Advances.{refused, stays, full, opens, closes, bare}
use Rattle.yf_events.proofs.nesting.advance.Goals as goal

pub returns-in-Refuse-clause-runs : goal.returns-in-Refuse-clause-runs
returns-in-Refuse-clause-runs c = refused _ _ _ _ (sym c.move_at.ensures ∙ c.in-Refuse.is)

pub returns-in-Stay-clause-runs : goal.returns-in-Stay-clause-runs
returns-in-Stay-clause-runs c = stays _ _ _ _ _ (sym c.move_at.ensures ∙ c.in-Stay.is)

pub returns-then-len-limit-clause-runs : goal.returns-then-len-limit-clause-runs
returns-then-len-limit-clause-runs c =
    full _ _ _ _ _ _ (sym c.move_at.ensures ∙ c.in-Open.is) (omega (arith, c.args.below.now.ok.0))

pub returns-in_ok-push-in-Open-clause-runs : goal.returns-in_ok-push-in-Open-clause-runs
returns-in_ok-push-in-Open-clause-runs c =
    opens _ _ _ _ _ _ _ (sym c.move_at.ensures ∙ c.in-Open.is) (omega (arith, c.args.below.now.ok.0, c.if-len-limit.false)) c.in_ok-push-in-Open.ensures.items

pub returns-in-Some-clause-runs : goal.returns-in-Some-clause-runs
returns-in-Some-clause-runs c =
    closes _ _ _ _ _ _ (sym c.move_at.ensures ∙ c.in-Close.is) (omega (arith, c.args.below.now.ok.0)) c.in-Some.ensures.items

pub returns-in-None-clause-runs : goal.returns-in-None-clause-runs
returns-in-None-clause-runs c =
    bare _ _ _ _ _ (sym c.move_at.ensures ∙ c.in-Close.is) c.in-None.ensures.items (omega (arith, c.args.below.now.ok.0, c.in-None.ensures.cases.0))
