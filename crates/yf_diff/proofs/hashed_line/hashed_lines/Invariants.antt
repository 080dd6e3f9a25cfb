-- The lines so far and those of the rest are all lines.
use Rattle.std.proofs.Common.{◌≡◌, ◌++◌, length}
use Rattle.yf_diff.specs.Texts.{lines_of}
use Rattle.yf_diff.proofs.hashed_line.hashed_lines.Given as goal

abbrev pub invariant-loop-rest : goal.invariant-loop-rest
invariant-loop-rest l = l.lines.items ++ lines_of l.rest ≡ lines_of l.fn.text

abbrev pub decreases-loop-rest : goal.decreases-loop-rest
decreases-loop-rest l = length l.rest
