use Rattle.std.proofs.Common.{◌≡◌, ◌++◌, length, drop, ◌-◌}
use Rattle.std.specs.String.{string_bytes}
use Rattle.yf_block_scalar.specs.Content.{literal_after}
use Rattle.yf_block_scalar.proofs.content.push_literal.Given as goal

abbrev pub invariant-loop-index : goal.invariant-loop-index
invariant-loop-index l = string_bytes l.text ++ literal_after (drop l.index l.lines) ≡ string_bytes l.initial.text ++ literal_after (drop 1 l.lines)

abbrev pub decreases-loop-index : goal.decreases-loop-index
decreases-loop-index l = length l.lines - l.index
