-- The parts so far, and those that the rest of the events begins, are all.
use Rattle.std.proofs.Common.{◌≡◌, ◌++◌, [], drop, reverse}
use Rattle.yf_outline.specs.OutlinePass.{run}
use Rattle.yf_outline.proofs.outline.outline.Given as goal

abbrev pub invariant-loop-i : goal.invariant-loop-i
invariant-loop-i l = l.parts.items ++ run l.text l.several (reverse l.stack.items) (drop l.i l.reading.events)
    ≡ run l.text l.several [] l.reading.events
