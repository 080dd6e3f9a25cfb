use Rattle.std.proofs.Common.{refl, arith}
use Rattle.yf_rule_sets.specs.Passes.Entries.{unmarked_at}
use Rattle.yf_rule_sets.proofs.Indentation.PassLemmas.{one_passed}
use Rattle.yf_rule_sets.proofs.facts.node_context.next_context.Goals as goal

pub returns-in-Some-clause-stack : goal.returns-in-Some-clause-stack
returns-in-Some-clause-stack c =
    one_passed c.args.stack.now.items c.args.stack.now.len c.in-Some.collection.now (omega (arith, c.args.stack.now.ok)) (c.in-Some.ensures.variant.0 refl) c.in-Some.ensures.value
    (unmarked_at c.args.src.now.text c.args.reading.now.events c.args.i) c.begins_next_entry-is_value.new.collection c.begins_next_entry-is_value.ensures.collection
