use Rattle.std.proofs.Common.{◌≡◌, ◌<◌, ◌^◌, length}
use Rattle.yf_types.specs.Values.{digits_from}
use Rattle.yf_types.proofs.meaning.digits.Given as goal

abbrev pub invariant-bytes : goal.invariant-bytes
invariant-bytes l = (l.n < 2 ^ 64) × (digits_from l.base l.n l.rest ≡ digits_from l.base 0 l.text)

abbrev pub decreases-bytes : goal.decreases-bytes
decreases-bytes l = length l.rest
