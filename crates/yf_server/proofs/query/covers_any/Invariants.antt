-- None of the values so far is such a kind.
use Rattle.std.proofs.Common.{◌≡◌, drop, map}
use Rattle.serde_json.specs.View.{items_of, view}
use Rattle.yf_server.specs.Queries.{covers_any}
use Rattle.yf_server.proofs.query.covers_any.Given as goal

abbrev pub invariant-loop-value : goal.invariant-loop-value
invariant-loop-value l = covers_any (items_of (map view (drop l.value-index l.values)))
    ≡ covers_any (items_of (map view l.values))
