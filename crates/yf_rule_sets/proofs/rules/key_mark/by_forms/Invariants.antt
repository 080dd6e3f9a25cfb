use Rattle.yf_forms.specs.NormalForms.Textual.{IsTextual}
use Rattle.yf_rule_sets.specs.RuleSets.Exact.{UpTo}
use Rattle.yf_rule_sets.specs.RuleSets.Layouts.{NeedlessMark}
use Rattle.yf_rule_sets.specs.Passes.OuterFlow.{FlowsDone}
use Rattle.yf_rule_sets.proofs.rules.key_mark.by_forms.Given as goal

abbrev pub invariant-loop-i : goal.invariant-loop-i
invariant-loop-i l = (w : IsTextual l.reading) → UpTo (NeedlessMark l.src l.reading l.style w.trees) l.i l.offsets.items × FlowsDone l.reading.events l.i l.done
