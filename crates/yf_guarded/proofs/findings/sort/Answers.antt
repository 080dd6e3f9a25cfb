use Rattle.std.proofs.Common.{rules}
use Rattle.std.proofs.lemmas.List.Sorted.{answers_always}
use Rattle.yf_rules.specs.Check.{sort_key}
use Rattle.yf_guarded.proofs.findings.sort.Goals as goal

pub returns-in-Ok : goal.returns-in-Ok
returns-in-Ok c = record {
  same = c.in-Ok.ensures.permutation;
  order = c.in-Ok.ensures.sorted sort_key (answers_always _ _ _ (λ f a r g h. search rules));
  stable = c.in-Ok.ensures.stable sort_key (answers_always _ _ _ (λ f a r g h. search rules));
}
