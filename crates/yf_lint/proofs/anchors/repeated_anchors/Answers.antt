use Rattle.std.proofs.Common.{◌<◌, length, arith}
use Rattle.yf_events.specs.Event.{event_value}
use Rattle.yf_guard.proofs.StepLemmas.{event_at}
use Rattle.yf_lint.specs.Anchors.{names_after}
use Rattle.yf_lint.proofs.NamePasses.{on_step}
use Rattle.yf_lint.proofs.anchors.repeated_anchors.Goals as goal

pub loop-i-preserved : goal.loop-i-preserved
loop-i-preserved c =
    let r = c.args.reading.now in
    let i = c.loop-i.i in
    let l : i < length r.events = omega (arith, c.len-i-end.ensures, c.loop-i-test.true) in
    let x = event_at r i l in
    let v = c.loop-i.invariant in
    let w =
    on_step r i x.0 (event_value c.event.result) c.span.result x.1 c.event.ensures c.span.ensures c.loop-i.names c.pass_on.new.names
    c.loop-i.offsets.items c.pass_on.new.offsets.items v.0 _ v.1 v.2 c.in_ok-pass_on.ensures in
    (names_after (event_value c.event.result) v.0, w.0, w.1)
