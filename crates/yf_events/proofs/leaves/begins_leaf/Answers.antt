use Rattle.std.proofs.Common.{add-one, ◌∙◌}
use Rattle.yf_events.proofs.LeafRuns.{leaf_seen}
use Rattle.yf_events.proofs.leaves.begins_leaf.Goals as goal

pub returns : goal.returns
returns c = c.begins.ensures ∙ leaf_seen c.args.events.now c.args.i _ c.ends_after.result c.event.ensures (rw add-one at c.ends_after.ensures)
