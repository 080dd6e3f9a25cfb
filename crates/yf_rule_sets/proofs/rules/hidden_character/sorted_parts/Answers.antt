use Rattle.std.proofs.Common.{rules}
use Rattle.std.proofs.lemmas.List.Sorted.{IsNonDecreasingBy-from_sort_by_key}
use Rattle.yf_events.specs.declared.event.Span.{Span}
use Rattle.yf_rule_sets.proofs.RuleSets.MarkPassLemmas.{sorted_same}
use Rattle.yf_rule_sets.proofs.rules.hidden_character.sorted_parts.Goals as goal

pub returns : goal.returns
returns c = (
  sorted_same c.in_ok-parts.parts.items c.sort_unstable_by_key.new.self.items c.sort_unstable_by_key.ensures.permutation c.in_ok-parts.ensures,
  IsNonDecreasingBy-from_sort_by_key (λ (s : Span). s.start) _ c.sort_unstable_by_key.ensures.sorted (λ a r q k. search rules),
)
