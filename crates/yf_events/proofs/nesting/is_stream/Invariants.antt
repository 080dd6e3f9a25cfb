use Rattle.std.proofs.Common.{◌≡◌, ◌-◌, ◌≤◌, [], map, length, drop, vec_len}
use Rattle.std.specs.Prelude.{reverse}
use Rattle.yf_events.specs.Nesting.{run}
use Rattle.yf_events.specs.declared.nesting.NestingState.TheVariants.{Stream}
use Rattle.yf_events.proofs.nesting.is_stream.Given as goal

abbrev pub invariant-loop-i : goal.invariant-loop-i
invariant-loop-i l =
    (vec_len l.below ≤ l.limit)
    × (run (l.limit - length l.below.items) l.top (reverse l.below.items) (map (λ e. e.event) (drop l.i l.events))
    ≡ run l.limit Stream [] (map (λ e. e.event) l.events))
