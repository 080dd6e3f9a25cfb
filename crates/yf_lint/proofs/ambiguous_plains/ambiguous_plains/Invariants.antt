use Rattle.std.proofs.Common.{◌≡◌, ◌++◌, [], drop, reverse}
use Rattle.yf_lint.specs.PlainPass.{run}
use Rattle.yf_lint.proofs.ambiguous_plains.ambiguous_plains.Given as goal

abbrev pub invariant-loop-i : goal.invariant-loop-i
invariant-loop-i l =
    l.offsets.items ++ run l.keys (reverse l.stack.items) (drop l.i l.reading.events) ≡ run l.keys [] l.reading.events
