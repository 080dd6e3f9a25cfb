use Rattle.yf_events.specs.Packed.{more_value}
use Rattle.yf_events.proofs.PackedRows.{folded_seen}
use Rattle.yf_events.proofs.events.Events.folded.Goals as goal

pub returns : goal.returns
returns c =
    folded_seen c.self.inside.more.items c.as_slice.result.now c.self.inside.rows.items c.args.self.now c.args.i c.index.result.now (more_value c.more_in.result) _
    c.requires c.index.ensures c.self.view_is c.as_slice.ensures.value c.more_in.ensures c.folded_of.ensures
