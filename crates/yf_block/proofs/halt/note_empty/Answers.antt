use Rattle.std.proofs.Common.{refl}
use Rattle.yf_block.specs.HaltNotes.{empty_noted, empty_before, empty_nowhere}
use Rattle.yf_block.proofs.halt.note_empty.Goals as goal

pub returns-in-Some-clause-noted : goal.returns-in-Some-clause-noted
returns-in-Some-clause-noted c = λ o b z. empty_before c.if-value_follows.ensures c.in-Some.ensures.last

pub returns-in_default-clause-noted : goal.returns-in_default-clause-noted
returns-in_default-clause-noted c = λ o b z. empty_nowhere c.if-value_follows.ensures c.in_default.ensures.last

pub returns-clause-noted : goal.returns-clause-noted
returns-clause-noted c = λ o b z. empty_noted (c.if-value_follows.ensures b z)

pub value_follows-requires : goal.value_follows-requires
value_follows-requires c = c.requires.place

pub returns-clause-progress : goal.returns-clause-progress
returns-clause-progress c = record { floor = c.requires.progress.floor; from = c.requires.progress.from; halt = c.requires.place }

pub returns-clause-others : goal.returns-clause-others
returns-clause-others c = refl

pub returns-in-Some-clause-others : goal.returns-in-Some-clause-others
returns-in-Some-clause-others c = refl

pub returns-in_default-clause-progress : goal.returns-in_default-clause-progress
returns-in_default-clause-progress c = c.requires.progress

pub returns-in_default-clause-others : goal.returns-in_default-clause-others
returns-in_default-clause-others c = refl

pub returns-in_default-clause-outermost : goal.returns-in_default-clause-outermost
returns-in_default-clause-outermost c = λ _. refl
