use Rattle.std.proofs.Common.{to_z-of_z}
use Rattle.yf_grammar.specs.Refusal.{as_scanned}
use Rattle.yf_flow.proofs.Stack.ReadersLemmas.{scanned_stops}
use Rattle.yf_flow.proofs.flow.read_flow_node.Goals as goal

pub returns-in-Some-clause-reads : goal.returns-in-Some-clause-reads
returns-in-Some-clause-reads c =
    scanned_stops c.in-Ok-Some.field-0-0 c.in-Some.place c.in-Some.is (rw (c.in-Ok-Some.field-0-is, to_z-of_z c.ranges.n) at (c.in-Ok-Some.ensures.reads))

pub returns-in-Err-clause-reads : goal.returns-in-Err-clause-reads
returns-in-Err-clause-reads c = as_scanned (rw (to_z-of_z c.ranges.n) at (c.in-Err.ensures.reads))
