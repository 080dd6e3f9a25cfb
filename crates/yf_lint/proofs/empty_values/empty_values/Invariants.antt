use Rattle.std.proofs.Common.{◌≡◌, ◌++◌, [], drop, reverse}
use Rattle.yf_lint.specs.EmptyPass.{run}
use Rattle.yf_lint.proofs.empty_values.empty_values.Given as goal

abbrev pub invariant-loop-i : goal.invariant-loop-i
invariant-loop-i l = l.offsets.items ++ run (reverse l.stack.items) (drop l.i l.reading.events) ≡ run [] l.reading.events
