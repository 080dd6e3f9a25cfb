use Rattle.std.proofs.Common.{◌≤◌, ◌+◌, arith, length}
use Rattle.yf_forms.proofs.Texts.OneLineRuns.{run_step, run_end, run_past}
use Rattle.yf_forms.proofs.form.kept.push_between.Goals as goal

pub loop-k-preserved : goal.loop-k-preserved
loop-k-preserved c =
    run_step c.args.style.now _ _ c.loop-k.k c.args.last c.args.reading.now.events _ _ _ _ c.event.ensures (omega arith)
    c.in_ok-push_event.ensures.adds c.in_ok-push_event.ensures.next c.loop-k.invariant

pub returns-after-loop-k : goal.returns-after-loop-k
returns-after-loop-k c =
    let past : length c.args.reading.now.events ≤ c.loop-k.k = omega (arith, c.len-k-end.ensures) in
    run_past c.args.style.now _ c.loop-k.k c.args.last c.args.reading.now.events _ _ past c.loop-k.invariant

pub returns-then-last-k : goal.returns-then-last-k
returns-then-last-k c =
    let past : c.args.last + 1 ≤ c.loop-k.k = omega arith in
    run_end c.args.style.now _ c.loop-k.k c.args.last c.args.reading.now.events _ _ past c.loop-k.invariant
