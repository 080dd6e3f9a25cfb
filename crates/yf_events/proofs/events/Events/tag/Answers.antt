use Rattle.yf_events.specs.Packed.{more_value}
use Rattle.yf_events.proofs.PackedRows.{tag_seen}
use Rattle.yf_events.proofs.events.Events.tag.Goals as goal

pub returns : goal.returns
returns c =
    tag_seen c.self.inside.more.items c.as_slice.result.now c.self.inside.rows.items c.args.self.now c.args.i c.index-row.result.now (more_value c.more_in.result) _
    c.requires c.index-row.ensures c.self.view_is c.as_slice.ensures.value c.more_in.ensures c.tag_of.ensures
