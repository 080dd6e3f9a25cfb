-- The symbols so far and those still deeper are all that are deeper.
use Rattle.std.proofs.Common.{◌≡◌, ◌++◌, length, map}
use Rattle.serde_json.specs.View.{view}
use Rattle.yf_server.specs.Symbols.{after_deeper, deeper, on_stack}
use Rattle.yf_server.proofs.symbols.take_deeper.Given as goal

abbrev pub invariant-loop-values : goal.invariant-loop-values
invariant-loop-values l = record {
  taken : map view l.values.items ++ deeper l.depth (on_stack l.stack.items)
      ≡ deeper l.depth (on_stack l.fn.stack.items);
  rest : after_deeper l.depth (on_stack l.stack.items) ≡ after_deeper l.depth (on_stack l.fn.stack.items);
}

abbrev pub decreases-loop-values : goal.decreases-loop-values
decreases-loop-values l = length l.stack.items
