use Rattle.std.proofs.Common.{◌<◌, ◌≤◌, length, arith}
use Rattle.yf_events.specs.Reading.{events_of}
use Rattle.yf_rule_sets.proofs.RuleSets.DocumentLemmas.{event_count, marker_step, markers_done}
use Rattle.yf_rule_sets.proofs.facts.markers.markers.Goals as goal

pub loop-i-preserved : goal.loop-i-preserved
loop-i-preserved c =
    let es = events_of c.args.reading.now in
    let l : c.loop-i.i < length es = omega (arith, event_count c.args.reading.now, c.len-i-end.ensures) in
    marker_step es c.loop-i.i _ _ c.marker_at.result l c.loop-i.invariant c.marker_at.ensures c.in_ok-push_found.ensures

pub returns : goal.returns
returns c =
    let all : length (events_of c.args.reading.now) ≤ c.loop-i.i = omega (arith, event_count c.args.reading.now, c.len-i-end.ensures, c.loop-i-test.false) in
    markers_done (events_of c.args.reading.now) c.loop-i.i c.loop-i.markers.items all c.loop-i.invariant
