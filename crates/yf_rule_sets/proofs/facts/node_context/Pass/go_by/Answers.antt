use Rattle.std.proofs.Common.{refl}
use Rattle.yf_events.specs.Event.{scalar_node}
use Rattle.yf_rule_sets.proofs.Indentation.PassLemmas.{passed_by}
use Rattle.yf_rule_sets.proofs.facts.node_context.Pass.go_by.Goals as goal

pub returns : goal.returns
returns c = λ props style text e.
    passed_by c.args.src.now.text c.args.reading.now.events c.args.i c.requires c.args.self.now _ _ (scalar_node props style text) (scalar_node props style text) e e refl
    c.next_context.ensures.stack refl refl refl
