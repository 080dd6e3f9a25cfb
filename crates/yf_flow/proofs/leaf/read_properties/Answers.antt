use Rattle.std.proofs.Common.{arith}
use Rattle.yf_flow.proofs.Ends.Forward.{properties_forward}
use Rattle.yf_flow.proofs.leaf.read_properties.Goals as goal

pub returns-in-Some-clause-place : goal.returns-in-Some-clause-place
returns-in-Some-clause-place c =
    let f = properties_forward (rw c.in-Some.is at c.in_ok-properties.ensures.reads).derived in
    record { boundary = rw c.in-Some.is at c.in_ok-properties.ensures.boundary; order = omega (arith, f) }
