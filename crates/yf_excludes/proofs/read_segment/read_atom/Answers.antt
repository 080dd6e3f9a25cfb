use Rattle.std.proofs.Common.{refl, arith}
use Rattle.yf_excludes.specs.Segments.{class_atom}
use Rattle.yf_excludes.proofs.read_segment.read_atom.Goals as goal

pub returns-in-Some : goal.returns-in-Some
returns-in-Some c =
    let read = rw c.in-Some.is at c.in_ok-read_class.ensures in
    (class_atom c.requires c.if-byte-eq91.true read.0 refl, omega (arith, read.1), read.2)
