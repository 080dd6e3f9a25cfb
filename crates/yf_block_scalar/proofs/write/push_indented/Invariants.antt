use Rattle.std.proofs.Common.{◌≡◌, ◌++◌, ◌-◌, length, drop, map}
use Rattle.std.specs.String.{string_bytes}
use Rattle.yf_block_scalar.specs.Content.{literal_after}
use Rattle.yf_block_scalar.specs.Written.{indented}
use Rattle.yf_block_scalar.proofs.write.push_indented.Given as goal

abbrev pub invariant-loop-index : goal.invariant-loop-index
invariant-loop-index l =
    string_bytes l.text ++ literal_after (map (indented l.column) (drop l.index l.lines)) ≡ string_bytes l.initial.text ++ literal_after (map (indented l.column) (drop 1 l.lines))

abbrev pub decreases-loop-index : goal.decreases-loop-index
decreases-loop-index l = length l.lines - l.index
