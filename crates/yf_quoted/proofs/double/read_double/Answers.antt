use Rattle.std.proofs.Common.{to_z-of_z}
use Rattle.yf_quoted.specs.Fault.DoubleFault.{for_memory}
use Rattle.yf_quoted.proofs.QuotedLemmas.{fault_from}
use Rattle.yf_quoted.proofs.double.read_double.Goals as goal

pub returns-in-Ok-Some-clause-refused : goal.returns-in-Ok-Some-clause-refused
returns-in-Ok-Some-clause-refused c =
    fault_from (rw c.in-Ok-Some.field-0-is at c.in-Ok-Some.ensures.reads) c.text.ensures (to_z-of_z c.ranges.n) (rw c.in-Some.is at c.first.ensures).1 c.place.ensures.place

pub returns-clause-refused : goal.returns-clause-refused
returns-clause-refused c = for_memory
