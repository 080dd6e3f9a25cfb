use Rattle.yf_events.proofs.SilentRows.{silent_alone}
use Rattle.yf_events.proofs.packed.is_silent.Goals as goal

pub returns-then-row-eq0 : goal.returns-then-row-eq0
returns-then-row-eq0 c = silent_alone c.args.table.now c.args.row.now _ c.if-row-eq0.true c.names_nothing.ensures
