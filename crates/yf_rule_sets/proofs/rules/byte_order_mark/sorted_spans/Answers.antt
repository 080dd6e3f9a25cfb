use Rattle.std.proofs.Common.{rules}
use Rattle.std.proofs.lemmas.List.Sorted.{IsNonDecreasingBy-from_sort_by_key}
use Rattle.yf_events.specs.declared.event.Span.{Span}
use Rattle.yf_rule_sets.proofs.RuleSets.MarkPassLemmas.{sorted_same}
use Rattle.yf_rule_sets.proofs.rules.byte_order_mark.sorted_spans.Goals as goal

pub returns : goal.returns
returns c = (
  sorted_same c.in_ok-spans.spans.items c.sort_unstable_by_key.new.self.items c.sort_unstable_by_key.ensures.permutation c.in_ok-spans.ensures,
  IsNonDecreasingBy-from_sort_by_key (λ (s : Span). s.start) _ c.sort_unstable_by_key.ensures.sorted (λ a r q k. search rules),
)
