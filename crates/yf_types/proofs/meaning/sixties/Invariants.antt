use Rattle.std.proofs.Common.{◌≡◌, length}
use Rattle.yf_types.specs.Values.{sixties_from}
use Rattle.yf_types.proofs.meaning.sixties.Given as goal

abbrev pub invariant-bytes : goal.invariant-bytes
invariant-bytes l = sixties_from l.sum l.part l.rest ≡ sixties_from 0 0 l.text

abbrev pub decreases-bytes : goal.decreases-bytes
decreases-bytes l = length l.rest
