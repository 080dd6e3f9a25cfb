use Rattle.std.proofs.Common.{◌<◌, ap, length, reverse, None, arith}
use Rattle.yf_events.specs.Event.{event_value}
use Rattle.yf_guard.specs.Guards.{least_from}
use Rattle.yf_guard.specs.Pass.{run}
use Rattle.yf_guard.proofs.StepLemmas.{event_at, pass_done, pass_step}
use Rattle.yf_guard.proofs.pass.first_in.Goals as goal

pub loop-i-init : goal.loop-i-init
loop-i-init c = ap (λ xs. least_from None (run c.args.text.now (reverse xs) c.args.reading.now.events)) c.new-stack.ensures.items

pub loop-i-preserved : goal.loop-i-preserved
loop-i-preserved c =
    let r = c.args.reading.now in
    let i = c.loop-i.i in
    let l : i < length r.events = omega (arith, c.len-i-end.ensures, c.loop-i-test.true) in
    let x = event_at r i l in
    pass_step c.args.text.now r i x.0 (event_value c.event.result) c.span.result x.1 c.event.ensures c.span.ensures _ _ _ _ _ c.loop-i.invariant c.in_ok-found.ensures.stack c.in_ok-found.ensures.found

pub returns : goal.returns
returns c = pass_done c.args.reading.now c.args.text.now c.loop-i.i _ c.loop-i.found (omega (arith, c.len-i-end.ensures, c.loop-i-test.false)) c.loop-i.invariant
