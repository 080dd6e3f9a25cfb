use Rattle.yf_events.proofs.TagLists.{no_tag_found, tag_found}
use Rattle.yf_events.proofs.tags.Tags.found.Goals as goal

pub returns-in-Ok : goal.returns-in-Ok
returns-in-Ok c =
    tag_found c.self.inside.count c.self.inside.tagged.items c.args.self.now c.args.i c.in-Ok.place c.index.result.now c.self.view_is c.self.invariant.rise c.requires
    (rw c.as_slice.ensures.value at c.in-Ok.ensures) c.index.ensures

pub returns-in-Err : goal.returns-in-Err
returns-in-Err c =
    no_tag_found c.self.inside.count c.self.inside.tagged.items c.args.self.now c.args.i c.self.view_is c.requires (rw c.as_slice.ensures.value at c.in-Err.ensures)
