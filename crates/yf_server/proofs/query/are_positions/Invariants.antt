-- The values so far are positions.
use Rattle.std.proofs.Common.{◌≡◌, drop, map}
use Rattle.serde_json.specs.View.{items_of, view}
use Rattle.yf_server.specs.Queries.{are_positions}
use Rattle.yf_server.proofs.query.are_positions.Given as goal

abbrev pub invariant-loop-value : goal.invariant-loop-value
invariant-loop-value l = are_positions (items_of (map view (drop l.value-index l.values)))
    ≡ are_positions (items_of (map view l.values))
