-- No encoding so far is known.
use Rattle.std.proofs.Common.{◌≡◌, drop, map}
use Rattle.serde_json.specs.View.{items_of, view}
use Rattle.yf_server.specs.Handshake.{first_known}
use Rattle.yf_server.proofs.handshake.first_known.Given as goal

abbrev pub invariant-loop-value : goal.invariant-loop-value
invariant-loop-value l = first_known (items_of (map view (drop l.value-index l.values)))
    ≡ first_known (items_of (map view l.values))
