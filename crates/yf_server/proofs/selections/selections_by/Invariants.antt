-- The selection ranges so far, and those of the rest of the positions, are all.
use Rattle.std.proofs.Common.{◌≡◌, ◌++◌, drop, map}
use Rattle.serde_json.specs.View.{view}
use Rattle.yf_server.specs.Parameters.{position_of}
use Rattle.yf_server.specs.Selections.{selection_by}
use Rattle.yf_server.proofs.selections.selections_by.Given as goal

abbrev pub invariant-loop-position : goal.invariant-loop-position
invariant-loop-position l = map view l.values.items ++ map
    (λ d. selection_by l.encoding l.document l.parts (position_of d)) (map view (drop l.position-index l.positions))
    ≡ map (λ d. selection_by l.encoding l.document l.parts (position_of d)) (map view l.positions)
