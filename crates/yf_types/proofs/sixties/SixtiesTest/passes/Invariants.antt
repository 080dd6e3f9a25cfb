use Rattle.std.proofs.Common.{◌≡◌, length}
use Rattle.yf_lines.specs.CoreSchema.{repeated}
use Rattle.yf_types.specs.OlderSchema.{sixty}
use Rattle.yf_types.specs.Tests.{after_match}
use Rattle.yf_types.proofs.sixties.SixtiesTest.passes.Given as goal

abbrev pub invariant-parts : goal.invariant-parts
invariant-parts g l =
    after_match (repeated sixty) g.K.Test.test l.rest ≡ after_match (repeated sixty) g.K.Test.test l.bytes

abbrev pub decreases-parts : goal.decreases-parts
decreases-parts g l = length l.rest
