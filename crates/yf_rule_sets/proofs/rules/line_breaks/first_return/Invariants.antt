use Rattle.std.proofs.Common.{◌≡◌, drop}
use Rattle.yf_rule_sets.specs.Sets.{first_return}
use Rattle.yf_rule_sets.proofs.rules.line_breaks.first_return.Given as goal

abbrev pub invariant-loop-i : goal.invariant-loop-i
invariant-loop-i l = first_return l.fn.src.text l.fn.src.lines ≡ first_return l.fn.src.text (drop l.i l.fn.src.lines)
