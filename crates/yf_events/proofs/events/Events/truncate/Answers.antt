use Rattle.yf_events.proofs.PackedRows.{truncate_fits, truncate_seen}
use Rattle.yf_events.proofs.events.Events.truncate.Goals as goal

pub invariant_of-self : goal.invariant_of-self
invariant_of-self c = truncate_fits _ c.self.inside.rows.items _ c.args.count c.truncate.ensures.items c.self.invariant

pub returns : goal.returns
returns c = truncate_seen _ c.self.inside.rows.items _ _ c.args.count c.truncate.ensures.items c.self.view_is
