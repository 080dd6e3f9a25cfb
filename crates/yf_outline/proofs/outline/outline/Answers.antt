use Rattle.std.proofs.Common.{◌<◌, ◌++◌, ◌∙◌, [], ap, length, reverse, arith}
use Rattle.yf_events.specs.Event.{event_value}
use Rattle.yf_guard.proofs.StepLemmas.{event_at}
use Rattle.yf_outline.specs.OutlinePass.{run}
use Rattle.yf_outline.proofs.OutlineSteps.{pass_done, pass_step}
use Rattle.yf_outline.proofs.outline.outline.Goals as goal

pub loop-i-init : goal.loop-i-init
loop-i-init c =
    let es = c.args.reading.now.events in
    let t = c.args.text.now in
    ap (λ xs. c.new-parts.result.items ++ run t c.has_several-several.result (reverse xs) es) c.new-stack.ensures.items
    ∙ ap (λ ps. ps ++ run t c.has_several-several.result [] es) c.new-parts.ensures.items

pub loop-i-preserved : goal.loop-i-preserved
loop-i-preserved c =
    let r = c.args.reading.now in
    let i = c.loop-i.i in
    let l : i < length r.events = omega (arith, c.len-i-end.ensures, c.loop-i-test.true) in
    let x = event_at r i l in
    pass_step c.args.text.now c.has_several-several.result r i x.0 (event_value c.event.result) c.span-span.result
    c.entry-entry.result x.1 c.event.ensures c.span-span.ensures c.entry-entry.ensures _ _ _ _ _
    c.loop-i.invariant c.in_ok-pass.ensures.stack c.in_ok-pass.ensures.parts

pub returns : goal.returns
returns c = pass_done c.args.text.now c.has_several-several.result c.args.reading.now c.loop-i.i _ c.loop-i.parts.items
    (omega (arith, c.len-i-end.ensures, c.loop-i-test.false)) c.loop-i.invariant c.has_several-several.ensures
