use Rattle.std.proofs.Common.{◌<◌, ℕ}
use Rattle.yf_forms.specs.declared.style.Style.{Style}
use Rattle.yf_rule_sets.specs.RuleSets.Layouts.{LayoutFault}
use Rattle.yf_rule_sets.proofs.rules.flow_layout.has_brackets.Given as goal

abbrev pub invariant-loop-i : goal.invariant-loop-i
invariant-loop-i l = (house : Style) (k o : ℕ) → k < l.i → LayoutFault l.src l.reading house k o → ⊥
