-- The words that are left decide whether all are ranges, and give the ranges that are left.
use Rattle.std.proofs.Common.{◌≡◌, ◌++◌, drop, map}
use Rattle.yf_command_line.specs.Lines.{are_lines, lines_in}
use Rattle.yf_command_line.proofs.lines.lines_met.Given as goal

abbrev pub invariant-loop-word : goal.invariant-loop-word
invariant-loop-word l = record {
  decided : are_lines (drop l.word-index (map (λ w. w.now) l.words)) ≡ are_lines (map (λ w. w.now) l.words);
  given : l.lines.items ++ lines_in (drop l.word-index (map (λ w. w.now) l.words))
      ≡ lines_in (map (λ w. w.now) l.words);
}
