use Rattle.std.proofs.Common.{reverse}
use Rattle.yf_rule_sets.specs.Passes.IndentFaults.{IndentPassAt}
use Rattle.yf_rule_sets.proofs.rules.indentation.offsets.Given as goal

abbrev pub invariant-loop-i : goal.invariant-loop-i
invariant-loop-i l = IndentPassAt l.src l.reading l.style l.pass.columns.items l.pass.begun l.i (reverse l.pass.stack.items) l.offsets.items
