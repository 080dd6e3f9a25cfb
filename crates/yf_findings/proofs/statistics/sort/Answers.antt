use Rattle.std.proofs.Common.{rules}
use Rattle.std.proofs.lemmas.List.Sorted.{answers_always}
use Rattle.yf_findings.specs.Statistics.{comes_before}
use Rattle.yf_findings.proofs.StatisticsLemmas.{comes_before_is_order}
use Rattle.yf_findings.proofs.statistics.sort.Goals as goal

pub returns-in-Ok-clause-sorted : goal.returns-in-Ok-clause-sorted
returns-in-Ok-clause-sorted c =
    c.in-Ok.ensures.sorted comes_before comes_before_is_order (answers_always _ _ _ (λ f a r g h. search rules))
