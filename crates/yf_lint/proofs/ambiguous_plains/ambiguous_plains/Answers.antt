use Rattle.std.proofs.Common.{◌<◌, ◌++◌, ◌∙◌, [], ap, length, reverse, arith}
use Rattle.yf_events.specs.Event.{event_value}
use Rattle.yf_guard.proofs.StepLemmas.{event_at}
use Rattle.yf_lint.specs.PlainPass.{run}
use Rattle.yf_lint.proofs.PlainSteps.{pass_done, pass_step}
use Rattle.yf_lint.proofs.ambiguous_plains.ambiguous_plains.Goals as goal

pub loop-i-init : goal.loop-i-init
loop-i-init c =
    let es = c.args.reading.now.events in
    ap (λ xs. c.new-offsets.result.items ++ run c.args.keys (reverse xs) es) c.new-stack.ensures.items
    ∙ ap (λ os. os ++ run c.args.keys [] es) c.new-offsets.ensures.items

pub loop-i-preserved : goal.loop-i-preserved
loop-i-preserved c =
    let r = c.args.reading.now in
    let i = c.loop-i.i in
    let l : i < length r.events = omega (arith, c.len-i-end.ensures, c.loop-i-test.true) in
    let x = event_at r i l in
    pass_step c.args.keys r i x.0 (event_value c.event.result) c.span.result x.1 c.event.ensures c.span.ensures
    _ _ _ _ _ c.start_of-start.result c.start_of-start.ensures c.loop-i.invariant
    c.in_ok-pass.ensures.stack c.in_ok-pass.ensures.offsets

pub returns : goal.returns
returns c =
    pass_done c.args.keys c.args.reading.now c.loop-i.i _ c.loop-i.offsets.items
    (omega (arith, c.len-i-end.ensures, c.loop-i-test.false)) c.loop-i.invariant
