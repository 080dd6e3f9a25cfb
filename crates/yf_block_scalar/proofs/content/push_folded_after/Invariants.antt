use Rattle.std.proofs.Common.{◌≡◌, ◌++◌, length, drop, ◌-◌, ◌≤◌}
use Rattle.std.specs.String.{string_bytes}
use Rattle.yf_block_scalar.specs.Content.{folded_after}
use Rattle.yf_block_scalar.proofs.content.push_folded_after.Given as goal

abbrev pub invariant-loop-index : goal.invariant-loop-index
invariant-loop-index l = record { bytes : string_bytes l.text ++ folded_after l.last_spaced l.empty (drop l.index l.lines) ≡ string_bytes l.initial.text ++ folded_after l.fn.spaced 0 (drop l.fn.from l.lines); few : l.empty ≤ l.index }

abbrev pub decreases-loop-index : goal.decreases-loop-index
decreases-loop-index l = length l.lines - l.index
