use Rattle.std.proofs.Common.{rules}
use Rattle.std.proofs.lemmas.List.Sorted.{answers_always}
use Rattle.yf_findings.specs.Guards.{start_key}
use Rattle.yf_findings.proofs.guards.sort.Goals as goal

pub returns-in-Ok : goal.returns-in-Ok
returns-in-Ok c = record {
  same = c.in-Ok.ensures.permutation;
  order = c.in-Ok.ensures.sorted start_key (answers_always _ _ _ (λ f a r g h. search rules));
  stable = c.in-Ok.ensures.stable start_key (answers_always _ _ _ (λ f a r g h. search rules));
}
