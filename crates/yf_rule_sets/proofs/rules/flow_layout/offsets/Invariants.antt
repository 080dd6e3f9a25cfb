use Rattle.std.proofs.Common.{List}
use Rattle.yf_forms.specs.NormalForms.Textual.{CommentsAscend}
use Rattle.yf_events.specs.Tree.{DocumentTree, TreesOf}
use Rattle.yf_rule_sets.specs.RuleSets.Exact.{UpTo}
use Rattle.yf_rule_sets.specs.RuleSets.Layouts.{LayoutFault}
use Rattle.yf_rule_sets.specs.Passes.OuterFlow.{FlowsDone}
use Rattle.yf_rule_sets.proofs.rules.flow_layout.offsets.Given as goal

abbrev pub invariant-loop-i : goal.invariant-loop-i
invariant-loop-i l = (trees : List DocumentTree) → TreesOf l.reading trees → CommentsAscend l.reading
    → UpTo (LayoutFault l.src l.reading l.style) l.i l.offsets.items × FlowsDone l.reading.events l.i l.done
