-- Each of the names so far is the name of a rule.
use Rattle.std.proofs.Common.{◌≡◌, true, take, map}
use Rattle.yf_command_line.specs.Without.{are_rules}
use Rattle.yf_command_line.proofs.without.unknown_name.Given as goal

abbrev pub invariant-loop-name : goal.invariant-loop-name
invariant-loop-name l = are_rules (map (λ r. r.now) l.rules) (take l.name-index l.names) ≡ true
