use Rattle.std.proofs.Common.{[], refl, ap, ◌∙◌, arith, slice_get}
use Rattle.yf_events.specs.Reading.{events_of}
use Rattle.std.proofs.KnownBytes.{Appends-nil}
use Rattle.yf_lines.proofs.OutputLemmas.{progress_part, progress_part_broke}
use Rattle.yf_events.proofs.PieceRuns.{next_event, no_event, all_events, there_is_event}
use Rattle.yf_events.proofs.notation.write_events.Goals as goal

pub loop-i-init : goal.loop-i-init
loop-i-init g c = record { written = []; split = all_events _; appended = Appends-nil _; same = refl }

pub returns-then-not-put_at : goal.returns-then-not-put_at
returns-then-not-put_at g c =
    let there = there_is_event c.args.reading.now c.loop-i.i (omega (arith, c.len-i-end.ensures, c.loop-i-test.true)) in
    let left = next_event _ _ _ _ _ c.args.reading.now c.loop-i.i _ _ there c.resolved_at_cursor.ensures c.loop-i.invariant in
    (refl, progress_part_broke _ _ _ _ _ _ _ _ _ left (c.if-not-put_at.ensures _ (ap (λ r. slice_get (events_of r) c.loop-i.i) c.lists.ensures.same ∙ there)))

pub loop-i-preserved : goal.loop-i-preserved
loop-i-preserved g c =
    let there = there_is_event c.args.reading.now c.loop-i.i (omega (arith, c.len-i-end.ensures, c.loop-i-test.true)) in
    let left = next_event _ _ _ _ _ c.args.reading.now c.loop-i.i _ _ there c.resolved_at_cursor.ensures c.loop-i.invariant in
    progress_part _ _ _ _ _ _ _ _ _ left (c.if-not-put_at.ensures _ (ap (λ r. slice_get (events_of r) c.loop-i.i) c.lists.ensures.same ∙ there))

pub returns : goal.returns
returns g c = no_event _ _ _ _ _ c.args.reading.now c.loop-i.i (omega (arith, c.len-i-end.ensures, c.loop-i-test.false)) c.loop-i.invariant
