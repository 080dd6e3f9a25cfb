use Rattle.std.proofs.Common.{◌≡◌, ◌++◌, List, [], drop, length, reverse}
use Rattle.yf_forms.specs.NormalForms.Textual.{IsTextual}
use Rattle.yf_rule_sets.specs.RuleSets.Exact.{UpTo}
use Rattle.yf_rule_sets.specs.RuleSets.Layouts.{NeedlessMark}
use Rattle.yf_rule_sets.specs.Passes.BlockKeys.{roles}
use Rattle.yf_rule_sets.specs.declared.facts.block_keys.Role.{Role}
use Rattle.yf_rule_sets.proofs.rules.key_mark.without_forms.Given as goal

abbrev pub invariant-loop-i : goal.invariant-loop-i
invariant-loop-i l = (before : List Role) × (length before ≡ l.i)
    × (roles [] l.reading.events ≡ before ++ roles (reverse l.stack.items) (drop l.i l.reading.events))
    × ((w : IsTextual l.reading) → UpTo (NeedlessMark l.src l.reading l.style w.trees) l.i l.offsets.items)
