use Rattle.std.proofs.lemmas.List.Elements.{All-nil}
use Rattle.yf_flow.proofs.Ends.MachineLemmas.{collected}
use Rattle.yf_flow.proofs.nodes.read_entries.Goals as goal

pub read_on-ending-requires-clause-standing : goal.read_on-ending-requires-clause-standing
read_on-ending-requires-clause-standing c = record { boundary = c.requires.boundary; innermost = rw c.swap.ensures.y_after c.requires.top; others = rw c.new.ensures.items (All-nil _) }

pub read_on-ending-requires-clause-escapes : goal.read_on-ending-requires-clause-escapes
read_on-ending-requires-clause-escapes c = rw c.swap.ensures.y_after c.requires.escapes

pub returns-clause-tied : goal.returns-clause-tied
returns-clause-tied c = (collected _ _ _ _ _ _ c.read_on-ending.result c.read_on-ending.ensures c.new.ensures.items c.swap.ensures.y_after c.swap-2.ensures.x_after).0

pub returns-clause-counted : goal.returns-clause-counted
returns-clause-counted c = (collected _ _ _ _ _ _ c.read_on-ending.result c.read_on-ending.ensures c.new.ensures.items c.swap.ensures.y_after c.swap-2.ensures.x_after).1

pub returns-clause-found : goal.returns-clause-found
returns-clause-found c = (collected _ _ _ _ _ _ c.read_on-ending.result c.read_on-ending.ensures c.new.ensures.items c.swap.ensures.y_after c.swap-2.ensures.x_after).2

pub returns-clause-escapes : goal.returns-clause-escapes
returns-clause-escapes c = (collected _ _ _ _ _ _ c.read_on-ending.result c.read_on-ending.ensures c.new.ensures.items c.swap.ensures.y_after c.swap-2.ensures.x_after).3
