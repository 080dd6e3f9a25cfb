use Rattle.std.proofs.Common.{rules}
use Rattle.std.proofs.lemmas.List.Sorted.{IsNonDecreasingBy-from_sort, answers_always}
use Rattle.yf_ranges.specs.declared.detail.Detail.{Detail}
use Rattle.yf_ranges.proofs.known.sort.Goals as goal

pub returns-in-Ok-clause-sorted : goal.returns-in-Ok-clause-sorted
returns-in-Ok-clause-sorted c =
    IsNonDecreasingBy-from_sort (λ (d : Detail). d.span.start) _
    (c.in-Ok.ensures.sorted (λ (d : Detail). d.span.start) (answers_always _ _ _ (λ f a r g h. search rules)))
