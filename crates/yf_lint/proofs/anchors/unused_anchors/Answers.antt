use Rattle.std.proofs.Common.{◌≡◌, ◌<◌, ◌+◌, ◌-◌, ◌∙◌, ap, drop, length, subst, arith}
use Rattle.yf_events.specs.Event.{event_value}
use Rattle.yf_guard.proofs.StepLemmas.{event_at}
use Rattle.yf_lint.specs.Anchors.{is_used, unused}
use Rattle.yf_lint.specs.NameSets.{IsNameSet}
use Rattle.yf_lint.proofs.NamePasses.{back_step}
use Rattle.yf_lint.proofs.anchors.unused_anchors.Goals as goal

pub loop-i-preserved : goal.loop-i-preserved
loop-i-preserved c =
    let r = c.args.reading.now in
    let n = c.loop-i.i in
    let k = n - 1 in
    let v = c.loop-i.invariant in
    let t : 0 < n = c.loop-i-test.true in
    let e : n ≡ k + 1 = omega (arith, t) in
    let l : k < length r.events = omega (arith, t, v.0) in
    let x = event_at r k l in
    let w =
    back_step r k x.0 (event_value c.event.result) c.span.result x.1 c.event.ensures c.span.ensures c.loop-i.names c.pass_back.new.names
    c.loop-i.offsets.items c.pass_back.new.offsets.items (subst (λ m. IsNameSet (is_used (drop m r.events)) c.loop-i.names) e v.1)
    (v.2 ∙ ap (λ m. unused (drop m r.events)) e) c.in_ok-pass_back.ensures in
    (omega (arith, l), w.0, w.1)
