use Rattle.std.proofs.Common.{◌≡◌, ◌+◌, ◌≤◌, drop}
use Rattle.std.specs.Prelude.{count_by, nat_lt}
use Rattle.yf_events.specs.Reading.{leaf_starts}
use Rattle.yf_events.proofs.leaves.leaves_before.Given as goal

abbrev pub invariant-loop-i : goal.invariant-loop-i
invariant-loop-i l =
    (l.count ≤ l.i)
    × (l.count + count_by (λ start. nat_lt start l.offset) (leaf_starts (drop l.i l.events))
    ≡ count_by (λ start. nat_lt start l.offset) (leaf_starts l.events))
