-- The flags so far, and those of the remaining hunks.
use Rattle.std.proofs.Common.{◌≡◌, ◌++◌, drop}
use Rattle.std.specs.Prelude.{map}
use Rattle.yf_parts.specs.Asked.{touched_by}
use Rattle.yf_parts.proofs.asked.touched_by_each.Given as goal

abbrev pub invariant-loop-hunk : goal.invariant-loop-hunk
invariant-loop-hunk l = l.flags.items ++ map (touched_by l.asked) (drop l.hunk-index l.hunks)
    ≡ map (touched_by l.asked) l.hunks
