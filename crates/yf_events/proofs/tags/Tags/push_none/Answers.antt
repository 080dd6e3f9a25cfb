use Rattle.std.proofs.Common.{◌∙◌, ◌++◌, None, ap, replicate}
use Rattle.yf_events.proofs.TagLists.{next_all_untagged}
use Rattle.yf_events.proofs.tags.Tags.push_none.Goals as goal

pub returns : goal.returns
returns c =
    next_all_untagged c.args.count c.self.inside.count c.in-Some.count c.self.inside.tagged.items c.self.invariant c.in-Some.ensures.1
    ∙ ap (λ v. v ++ replicate c.args.count None) c.self.view_is
