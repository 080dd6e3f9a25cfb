use Rattle.yf_laws.proofs.Printer.LayoutHolds.{planned}
use Rattle.yf_laws.proofs.passes.layouts_are_printed.Goals as goal

pub returns : goal.returns
returns c = planned
