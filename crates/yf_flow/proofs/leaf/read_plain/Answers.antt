use Rattle.std.proofs.Common.{arith}
use Rattle.yf_flow.proofs.Ends.Forward.{plain_forward}
use Rattle.yf_flow.proofs.leaf.read_plain.Goals as goal

pub returns-in-Ok-Some-clause-place : goal.returns-in-Ok-Some-clause-place
returns-in-Ok-Some-clause-place c =
    let r = rw c.in-Ok-Some.field-0-is at c.in-Ok-Some.ensures.reads in
    let f = plain_forward r.2.derived.text in
    record { boundary = rw c.in-Ok-Some.field-0-is at c.in-Ok-Some.ensures.boundary; order = omega (arith, f) }
