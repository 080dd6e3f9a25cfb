use Rattle.std.proofs.Common.{◌≡◌, ◌++◌, map, drop}
use Rattle.yf_block.proofs.scalar.kept_lines.Given as goal

abbrev pub invariant-loop-line : goal.invariant-loop-line
invariant-loop-line l = l.kept ++ map (λ part. part.now) (drop l.line-index l.line-items) ≡ l.lines
