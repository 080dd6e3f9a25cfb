use Rattle.std.proofs.Common.{rules}
use Rattle.std.proofs.lemmas.List.Sorted.{answers_always}
use Rattle.yf_ranges.specs.declared.detail.Detail.{Detail}
use Rattle.yf_ranges.proofs.KnownLemmas.{searched}
use Rattle.yf_ranges.proofs.known.index_of.Goals as goal

pub returns-clause-searched : goal.returns-clause-searched
returns-clause-searched c = λ rise.
    let facts = c.binary_search_by_key.ensures in
    searched c.args.details.now c.args.offset _ facts.bound
    (facts.position (λ (d : Detail). d.span.start) (answers_always _ _ _ (λ f a r g called. search rules))) rise
