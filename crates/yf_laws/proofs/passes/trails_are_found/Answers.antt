use Rattle.yf_laws.proofs.Printer.LayoutHolds.{trails_are}
use Rattle.yf_laws.proofs.passes.trails_are_found.Goals as goal

pub returns : goal.returns
returns c = trails_are
