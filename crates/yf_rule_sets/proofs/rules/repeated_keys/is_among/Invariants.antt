use Rattle.std.proofs.Common.{◌≡◌, ◌-◌, drop, length}
use Rattle.yf_rule_sets.specs.Passes.KeyPass.{holds_key, key_value}
use Rattle.yf_rule_sets.proofs.rules.repeated_keys.is_among.Given as goal

abbrev pub invariant-loop-k : goal.invariant-loop-k
invariant-loop-k l = holds_key (key_value l.key) (drop l.k l.keys) ≡ holds_key (key_value l.key) (drop l.first l.keys)

abbrev pub decreases-loop-k : goal.decreases-loop-k
decreases-loop-k l = length l.keys - l.k
