-- None of the rules so far has the name.
use Rattle.std.proofs.Common.{◌≡◌, false, take, map}
use Rattle.yf_command_line.specs.Without.{is_rule}
use Rattle.yf_command_line.proofs.without.is_rule.Given as goal

abbrev pub invariant-loop-rule : goal.invariant-loop-rule
invariant-loop-rule l = is_rule (map (λ r. r.now) (take l.rule-index l.rules)) l.name ≡ false
