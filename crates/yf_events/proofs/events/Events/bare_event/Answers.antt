use Rattle.std.proofs.Common.{ap, refl, sym}
use Rattle.yf_events.specs.Packed.{more_at, more_value}
use Rattle.yf_events.proofs.PackedRows.{event_seen}
use Rattle.yf_events.proofs.events.Events.bare_event.Goals as goal

pub returns-then-row-eq0 : goal.returns-then-row-eq0
returns-then-row-eq0 c =
    let more = c.self.inside.more.items in
    event_seen more more c.self.inside.rows.items c.args.self.now c.args.i c.index-row.result.now _ _ c.requires c.index-row.ensures c.self.view_is refl
    (sym (ap (λ n. more_at more n) c.if-row-eq0.true)) c.event_of.ensures
