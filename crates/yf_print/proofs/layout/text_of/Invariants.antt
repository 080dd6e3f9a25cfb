use Rattle.std.proofs.Common.{◌≡◌, drop}
use Rattle.yf_print.specs.Passes.PrintPass.{pass, start}
use Rattle.yf_print.specs.Passes.Pages.{work_on}
use Rattle.yf_print.specs.Passes.PrinterState.{state_of}
use Rattle.yf_print.proofs.layout.text_of.Given as goal

abbrev pub invariant-loop-i : goal.invariant-loop-i
invariant-loop-i l =
    pass (work_on l.page) l.i (drop l.i l.page.reading.now.events) (state_of l.printer) ≡ pass (work_on l.page) 0 l.page.reading.now.events start
