use Rattle.std.proofs.Common.{reverse}
use Rattle.yf_ranges.specs.IndentPass.{ToldTo}
use Rattle.yf_ranges.proofs.indentation.details.Given as goal

abbrev pub invariant-loop-i : goal.invariant-loop-i
invariant-loop-i l = ToldTo l.src l.reading l.style l.pass.columns.items l.pass.begun l.i (reverse l.pass.stack.items) l.details.items
