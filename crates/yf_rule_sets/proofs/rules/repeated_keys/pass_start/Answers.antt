use Rattle.std.proofs.Common.{None, List, false, refl, ap}
use Rattle.std.specs.BTreeMap.{is_at}
use Rattle.std.specs.List.{list_any}
use Rattle.yf_rule_sets.specs.Passes.KeyPass.{after, key_cmp}
use Rattle.yf_rule_sets.specs.declared.rules.repeated_keys.ScalarKey.{ScalarKey}
use Rattle.yf_rule_sets.proofs.RuleSets.KeyPassLemmas.{start_passed}
use Rattle.yf_rule_sets.proofs.rules.repeated_keys.pass_start.Goals as goal

pub returns : goal.returns
returns c = λ ks st e h.
    start_passed c.pass_node.new.stack.items c.push.new.self.items (record { is_map = c.args.is_map; at_value = false; first = c.args.first; more = c.new.result }) c.args.is_map ks (after None st) c.in_ok-push.ensures.items e
    (record { same_kind = refl; same_turn = refl; same_keys = λ k. ap (λ (ks : List ScalarKey). list_any (is_at (key_cmp k)) ks) c.new.ensures.empty }) (c.pass_node.ensures ks st h)
