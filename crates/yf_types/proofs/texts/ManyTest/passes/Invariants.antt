use Rattle.std.proofs.Common.{◌≡◌, length}
use Rattle.yf_lines.specs.CoreSchema.{byte_of, repeated}
use Rattle.yf_types.specs.Tests.{after_match}
use Rattle.yf_types.proofs.texts.ManyTest.passes.Given as goal

abbrev pub invariant-bytes : goal.invariant-bytes
invariant-bytes g l =
    after_match (repeated (byte_of g.C.ByteClass.members)) g.K.Test.test l.rest
    ≡ after_match (repeated (byte_of g.C.ByteClass.members)) g.K.Test.test l.bytes

abbrev pub decreases-bytes : goal.decreases-bytes
decreases-bytes g l = length l.rest
