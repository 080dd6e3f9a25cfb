use Rattle.std.proofs.Common.{◌∙◌, ◌-◌, sym, ap, arith, add-one, drop, length, map, suc, ◌==◌}
use Rattle.std.specs.Prelude.{reverse}
use Rattle.yf_events.specs.Nesting.{runs_on}
use Rattle.yf_events.proofs.Advances.{over_at, not_over_at, past_end, goes_on}
use Rattle.yf_events.proofs.nesting.is_stream.Goals as goal

pub returns-in-Nothing : goal.returns-in-Nothing
returns-in-Nothing c =
    let e = rw (past_end (λ e. e.event) c.loop-i.i c.args.events.now (omega (arith, c.len-i-end.ensures, c.loop-i-test.false)), c.in-Nothing.is) at c.loop-i.invariant.1 in
    c.is_empty.ensures ∙ ap (λ n. n == 0) c.loop-i.below.ok.0 ∙ sym (over_at _ c.loop-i.below.items) ∙ e

pub returns : goal.returns
returns c =
    let e = rw (past_end (λ e. e.event) c.loop-i.i c.args.events.now (omega (arith, c.len-i-end.ensures, c.loop-i-test.false))) at c.loop-i.invariant.1 in
    sym (not_over_at _ _ _ c.in_default.not-Nothing) ∙ e

pub returns-in-None : goal.returns-in-None
returns-in-None c =
    ap (λ o. runs_on o (c.args.limit - length c.advance.new.below.items) (reverse c.advance.new.below.items) (map (λ e. e.event) (drop (suc c.loop-i.i) c.args.events.now))) (sym c.in-None.is)
    ∙ goes_on c.args.limit c.loop-i.top c.loop-i.below.items c.advance.new.below.items _ c.in_ok-next.field-0 c.args.events.now c.loop-i.i _ c.in_ok-next.ensures.runs c.event.ensures c.loop-i.invariant.1

pub loop-i-preserved : goal.loop-i-preserved
loop-i-preserved c = (
  c.in_ok-next.ensures.room,
  rw add-one (ap (λ o. runs_on o (c.args.limit - length c.advance.new.below.items) (reverse c.advance.new.below.items) (map (λ e. e.event) (drop (suc c.loop-i.i) c.args.events.now))) (sym c.in-Some.is)
      ∙ goes_on c.args.limit c.loop-i.top c.loop-i.below.items c.advance.new.below.items _ c.in_ok-next.field-0 c.args.events.now c.loop-i.i _ c.in_ok-next.ensures.runs c.event.ensures c.loop-i.invariant.1),
)
