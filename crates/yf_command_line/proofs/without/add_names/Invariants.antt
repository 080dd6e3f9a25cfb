-- The names so far, followed by the remaining parts, are the names before, followed by all parts.
use Rattle.std.proofs.Common.{◌≡◌, ◌++◌, drop, map}
use Rattle.yf_command_line.specs.Without.{between_commas}
use Rattle.yf_command_line.proofs.without.add_names.Given as goal

abbrev pub invariant-loop-part : goal.invariant-loop-part
invariant-loop-part l =
    l.names.items ++ drop l.part-index (map (λ part. part.now) l.part-items)
    ≡ l.initial.names.items ++ between_commas l.word
