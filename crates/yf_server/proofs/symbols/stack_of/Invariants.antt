-- The stack has the symbols of the parts from an index on.
use Rattle.std.proofs.Common.{◌≡◌, ◌≤◌, drop, length}
use Rattle.yf_server.specs.Symbols.{on_stack, symbols_of}
use Rattle.yf_server.proofs.symbols.stack_of.Given as goal

abbrev pub invariant-loop-left : goal.invariant-loop-left
invariant-loop-left l = record {
  bound : l.left ≤ length l.parts;
  made : on_stack l.stack.items ≡ symbols_of l.encoding l.document (drop l.left l.parts);
}

abbrev pub decreases-loop-left : goal.decreases-loop-left
decreases-loop-left l = l.left
