use Rattle.std.proofs.Common.{◌≡◌, ◌-◌, drop, length}
use Rattle.yf_stream.specs.WellFormed.{is_version_one}
use Rattle.yf_stream.proofs.declarations.is_version_one.Given as goal

abbrev pub invariant-digits : goal.invariant-digits
invariant-digits l = is_version_one (drop l.at l.digits) ≡ is_version_one l.version

abbrev pub decreases-digits : goal.decreases-digits
decreases-digits l = length l.digits - l.at
