use Rattle.std.proofs.Common.{◌≡◌, [], None, drop, reverse}
use Rattle.yf_guard.specs.Guards.{least_from}
use Rattle.yf_guard.specs.Pass.{run}
use Rattle.yf_guard.proofs.pass.first_in.Given as goal

abbrev pub invariant-loop-i : goal.invariant-loop-i
invariant-loop-i l = least_from l.found (run l.text (reverse l.stack.items) (drop l.i l.reading.events)) ≡ least_from None (run l.text [] l.reading.events)
