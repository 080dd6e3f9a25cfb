use Rattle.yf_events.proofs.SilentRows.{silent_with}
use Rattle.yf_events.proofs.packed.is_silent_with.Goals as goal

pub returns : goal.returns
returns c = silent_with c.args.table.now c.args.row.now _ _ _ c.more_in.ensures c.event_of.ensures c.is_bare.ensures
