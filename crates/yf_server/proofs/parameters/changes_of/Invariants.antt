-- The changes so far and the remaining ones are all changes.
use Rattle.std.proofs.Common.{◌≡◌, ◌++◌, drop, map, option_map}
use Rattle.serde_json.specs.View.{items_of, view}
use Rattle.yf_server.specs.Parameters.{changes_of}
use Rattle.yf_server.proofs.parameters.changes_of.Given as goal

abbrev pub invariant-loop-value : goal.invariant-loop-value
invariant-loop-value l = option_map (λ rest. l.changes.items ++ rest)
    (changes_of (items_of (map view (drop l.value-index l.values)))) ≡ changes_of (items_of (map view l.values))
