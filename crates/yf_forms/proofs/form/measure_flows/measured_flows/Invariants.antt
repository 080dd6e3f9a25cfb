use Rattle.std.proofs.Common.{◌≡◌, ◌≤◌, map, take}
use Rattle.std.specs.Prelude.{reverse}
use Rattle.std.specs.List.Sorted.{IsNonDecreasingBy}
use Rattle.yf_comments.specs.Comment.{comment_value}
use Rattle.yf_comments.specs.declared.comment.Comment.{Comment}
use Rattle.yf_forms.specs.Nodes.FlowsAlone.{depths, flows_alone}
use Rattle.yf_forms.specs.Passes.MeasurePass.{setting}
use Rattle.yf_forms.proofs.Measure.StepLemmas.{Runs, Texts}
use Rattle.yf_forms.proofs.form.measure_flows.measured_flows.Given as goal

abbrev pub invariant-loop-i : goal.invariant-loop-i
invariant-loop-i l = record {
  depth : l.depth ≡ depths 0 (take l.i l.reading.events);
  bound : l.depth ≤ l.i;
  runs : IsNonDecreasingBy (λ (c : Comment). c.offset) l.comments
      → Runs l.text (setting l.style (map comment_value l.comments)) (flows_alone 0 l.reading.events) l.i l.list (reverse l.stack.items);
  texts : Texts (flows_alone 0 l.reading.events) l.i;
}
