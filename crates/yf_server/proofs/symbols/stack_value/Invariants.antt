-- The symbols so far and those of the stack are all.
use Rattle.std.proofs.Common.{◌≡◌, ◌++◌, length, map}
use Rattle.serde_json.specs.View.{view}
use Rattle.yf_server.specs.Symbols.{DeepSymbol, on_stack}
use Rattle.yf_server.proofs.symbols.stack_value.Given as goal

abbrev pub invariant-loop-value : goal.invariant-loop-value
invariant-loop-value l = map view l.values.items ++ map (λ (s : DeepSymbol). s.value) (on_stack l.stack.items)
    ≡ map (λ (s : DeepSymbol). s.value) (on_stack l.fn.stack.items)

abbrev pub decreases-loop-value : goal.decreases-loop-value
decreases-loop-value l = length l.stack.items
