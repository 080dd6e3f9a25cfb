use Rattle.std.proofs.Common.{◌≤◌, arith, length}
use Rattle.yf_print.specs.Passes.Pages.{no_event, placed_at, work_on}
use Rattle.yf_print.proofs.Pass.LookLemmas.{is_there}
use Rattle.yf_print.proofs.Pass.PrintLemmas.{noted_on, noted_last, noted_end}
use Rattle.yf_print.proofs.leaves.note_within.Goals as goal

pub loop-k-preserved : goal.loop-k-preserved
loop-k-preserved c =
    noted_on (work_on c.args.page.now) c.args.last c.loop-k.k c.args.page.now.reading.now.events (placed_at c.args.page.now c.loop-k.k) _ _ _
    (is_there c.args.page.now.reading.now.events c.loop-k.k no_event (omega arith)) (omega arith) c.in_ok-note_event.ensures c.loop-k.invariant

pub returns-then-last-k : goal.returns-then-last-k
returns-then-last-k c =
    noted_last (work_on c.args.page.now) c.args.last c.loop-k.k c.args.page.now.reading.now.events _ _ c.if-last-k.true c.loop-k.invariant

pub returns : goal.returns
returns c =
    let past : length c.args.page.now.reading.now.events ≤ c.loop-k.k = omega arith in
    noted_end (work_on c.args.page.now) c.args.last c.loop-k.k c.args.page.now.reading.now.events _ _ past c.loop-k.invariant
