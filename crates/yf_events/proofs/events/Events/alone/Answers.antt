use Rattle.yf_events.proofs.PackedRows.{alone_seen}
use Rattle.yf_events.proofs.events.Events.alone.Goals as goal

pub returns-then-row-eq0 : goal.returns-then-row-eq0
returns-then-row-eq0 c =
    alone_seen c.self.inside.more.items c.self.inside.rows.items c.args.self.now c.args.i c.index-row.result.now c.requires c.index-row.ensures c.self.view_is c.if-row-eq0.true
