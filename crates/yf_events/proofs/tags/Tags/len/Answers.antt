use Rattle.std.proofs.Common.{◌∙◌, ap, length, sym}
use Rattle.yf_events.proofs.TagLists.{listed_length}
use Rattle.yf_events.proofs.tags.Tags.len.Goals as goal

pub returns : goal.returns
returns c = sym (listed_length c.self.inside.count c.self.inside.tagged.items) ∙ ap length c.self.view_is
