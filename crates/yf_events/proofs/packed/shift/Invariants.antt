use Rattle.std.proofs.Common.{◌≡◌, ◌++◌, map, take, drop}
use Rattle.yf_events.specs.Packed.{shifted}
use Rattle.yf_events.proofs.packed.shift.Given as goal

abbrev pub invariant-loop-i : goal.invariant-loop-i
invariant-loop-i l = take l.i l.rows.items ++ map (shifted l.by) (drop l.i l.rows.items) ≡ map (shifted l.by) l.initial.rows.items
