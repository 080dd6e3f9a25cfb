use Rattle.std.proofs.Common.{◌≡◌, ◌≤◌, ap, arith, length, subst}
use Rattle.std.specs.Prelude.{IfOk}
use Rattle.std.specs.String.{string_bytes}
use Rattle.yf_print.specs.Passes.Drafts.{finished}
use Rattle.yf_print.specs.Passes.PrinterState.{state_of}
use Rattle.yf_print.specs.Passes.PrintPass.{PrintState}
use Rattle.yf_print.specs.Passes.PrintWork.{remarks_of}
use Rattle.yf_print.specs.Passes.Pages.{no_event, placed_at, work_on}
use Rattle.yf_print.proofs.Pass.LookLemmas.{is_there}
use Rattle.yf_print.proofs.Pass.PrintLemmas.{passed_on, passed_end}
use Rattle.yf_print.proofs.layout.text_of.Goals as goal

pub loop-i-preserved : goal.loop-i-preserved
loop-i-preserved c =
    passed_on (work_on c.args.page.now) c.loop-i.i c.args.page.now.reading.now.events (placed_at c.args.page.now c.loop-i.i) _ _ _
    (is_there c.args.page.now.reading.now.events c.loop-i.i no_event (omega arith)) c.in_ok-advance.ensures c.loop-i.invariant

pub returns-clause-printed : goal.returns-clause-printed
returns-clause-printed c =
    let past : length c.args.page.now.reading.now.events ≤ c.loop-i.i = omega arith in
    let end = passed_end (work_on c.args.page.now) c.loop-i.i c.args.page.now.reading.now.events (state_of c.loop-i.printer) _ past c.loop-i.invariant in
    subst (λ w. IfOk c.finish.result (λ text. string_bytes text ≡ finished (remarks_of (work_on c.args.page.now)) w))
    (ap (λ (w : PrintState). w.draft) end) c.finish.ensures.finished
