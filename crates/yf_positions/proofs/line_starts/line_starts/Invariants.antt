-- The starts so far are those up to an offset that is at the last one.
use Rattle.std.proofs.Common.{◌-◌, length}
use Rattle.yf_positions.proofs.StartLemmas.{StartsTo}
use Rattle.yf_positions.proofs.line_starts.line_starts.Given as goal

abbrev pub invariant-lines : goal.invariant-lines
invariant-lines l = StartsTo l.starts.items l.bytes l.at

abbrev pub decreases-lines : goal.decreases-lines
decreases-lines l = length l.bytes - l.at
