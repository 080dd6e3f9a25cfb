-- The names so far, followed by the names in the remaining words, are the names in all words.
use Rattle.std.proofs.Common.{◌≡◌, ◌++◌, drop, map}
use Rattle.yf_command_line.specs.Without.{names_in}
use Rattle.yf_command_line.proofs.without.names_in.Given as goal

abbrev pub invariant-loop-word : goal.invariant-loop-word
invariant-loop-word l =
    l.names.items ++ names_in (drop l.word-index (map (λ w. w.now) l.words)) ≡ names_in (map (λ w. w.now) l.words)
