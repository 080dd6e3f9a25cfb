-- The printer between two events, as a state of the pass.
use Rattle.std.specs.Prelude.{reverse}
use Rattle.yf_print.specs.declared.layout.Printer.{Printer}
use Rattle.yf_print.specs.Passes.Drafts.{draft}
use Rattle.yf_print.specs.Passes.PrintPass.{PrintState, state}

abbrev pub state_of : Printer → PrintState
state_of p = state (draft p.output) (reverse p.levels.items) p.documents p.done
