use Rattle.std.proofs.Common.{List}
use Rattle.yf_events.specs.Tree.{DocumentTree, TreesOf}
use Rattle.yf_forms.specs.NormalForms.Textual.{CommentsAscend}
use Rattle.yf_ranges.specs.FlowDetails.{LayoutDetail}
use Rattle.yf_ranges.proofs.NodeLemmas.{NodesTo}
use Rattle.yf_rule_sets.specs.Passes.OuterFlow.{FlowsDone}
use Rattle.yf_rule_sets.specs.RuleSets.Layouts.{LayoutFault}
use Rattle.yf_ranges.proofs.flow_layout.details.Given as goal

abbrev pub invariant-loop-i : goal.invariant-loop-i
invariant-loop-i l = (trees : List DocumentTree) → TreesOf l.reading trees → CommentsAscend l.reading
    → NodesTo (LayoutFault l.src l.reading l.style) (LayoutDetail l.src l.reading l.style) l.src.text l.i l.details.items × FlowsDone l.reading.events l.i l.done
