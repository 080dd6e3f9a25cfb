use Rattle.yf_rule_sets.specs.Passes.Entries.{unmarked_at}
use Rattle.yf_rule_sets.proofs.Indentation.EntryLemmas.{unmarked_none, unmarked_there}
use Rattle.yf_rule_sets.proofs.Indentation.PassLemmas.{key_passed}
use Rattle.yf_rule_sets.proofs.facts.node_context.begins_next_entry.Goals as goal
use Rattle.yf_rule_sets.proofs.facts.node_context.begins_next_entry.Goals.{in-Some-entry, in-None-entry}

pub returns-after-entry-clause-collection : goal.returns-after-entry-clause-collection
returns-after-entry-clause-collection c =
    let t = c.args.src.now.text in
    let es = c.args.reading.now.events in
    key_passed c.args.collection.now (unmarked_at t es c.args.i) c.match-entry.collection c.if-not-collection.false c.in-None.is
    (elim c.match-entry.branch [
      | in-Some-entry w ↦
          unmarked_there t w.text.result.now es c.args.i w.in-Some-entry.entry w.has_question_mark.result c.match-entry.collection w.in-Some-entry.ensures w.text.ensures w.has_question_mark.ensures w.collection-is
      | in-None-entry w ↦
          unmarked_none t t es c.args.i c.match-entry.collection w.in-None-entry.ensures w.collection-is
    ])
