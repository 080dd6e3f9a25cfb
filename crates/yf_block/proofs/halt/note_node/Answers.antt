use Rattle.std.proofs.Common.{refl}
use Rattle.yf_block.specs.HaltNotes.{node_noted, node_before, node_shorter}
use Rattle.yf_block.proofs.halt.note_node.Goals as goal

pub returns-in-Some-clause-noted : goal.returns-in-Some-clause-noted
returns-in-Some-clause-noted c = λ b z. node_before c.if-value_follows.ensures c.in-Some.ensures.last

pub returns-in-None-clause-noted : goal.returns-in-None-clause-noted
returns-in-None-clause-noted c = λ b z. node_shorter c.if-value_follows.ensures c.in-None.ensures.last c.note_shorter.ensures.noted

pub returns-clause-noted : goal.returns-clause-noted
returns-clause-noted c = λ b z. node_noted (c.if-value_follows.ensures b z)

pub value_follows-requires : goal.value_follows-requires
value_follows-requires c = c.requires.place

pub returns-clause-progress : goal.returns-clause-progress
returns-clause-progress c = record { floor = c.requires.progress.floor; from = c.requires.progress.from; halt = c.requires.place }

pub returns-clause-others : goal.returns-clause-others
returns-clause-others c = refl

pub returns-in-Some-clause-others : goal.returns-in-Some-clause-others
returns-in-Some-clause-others c = refl

pub returns-in-None-clause-progress : goal.returns-in-None-clause-progress
returns-in-None-clause-progress c = c.note_shorter.ensures.progress

pub returns-in-None-clause-others : goal.returns-in-None-clause-others
returns-in-None-clause-others c = c.note_shorter.ensures.others
