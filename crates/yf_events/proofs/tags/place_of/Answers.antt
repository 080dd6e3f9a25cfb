use Rattle.std.proofs.Common.{rules}
use Rattle.std.proofs.lemmas.List.Sorted.{answers_always}
use Rattle.yf_events.proofs.TagLists.{searched}
use Rattle.yf_events.proofs.tags.place_of.Goals as goal

pub returns : goal.returns
returns c =
    let facts = c.binary_search_by_key.ensures in
    let by_event = facts.position (λ t. t.event) (answers_always _ _ _ (λ f a r g called. search rules)) in
    searched c.args.tagged.now c.args.event _ c.requires facts.bound by_event
