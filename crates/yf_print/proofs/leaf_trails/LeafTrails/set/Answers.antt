use Rattle.yf_print.proofs.Pass.LeafTrailLemmas.{noted}
use Rattle.yf_print.proofs.leaf_trails.LeafTrails.set.Goals as goal

pub returns-then-event-len : goal.returns-then-event-len
returns-then-event-len c =
    noted c.self.inside.list.items c.args.self.now c.args.event c.in-Some.count c.in_ok-row.row c.args.k c.self.view_is c.in_ok-row.ensures c.in-Some.ensures.1
