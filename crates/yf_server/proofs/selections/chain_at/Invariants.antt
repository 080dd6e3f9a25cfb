-- The selection ranges so far, and those of the rest of the parts, are all.
use Rattle.std.proofs.Common.{◌≡◌, drop}
use Rattle.std.specs.Prelude.{flat_map, option_map}
use Rattle.serde_json.specs.View.{view}
use Rattle.yf_server.specs.Selections.{chain, chain_at, spans_at}
use Rattle.yf_server.proofs.selections.chain_at.Given as goal

abbrev pub invariant-loop-part : goal.invariant-loop-part
invariant-loop-part l = chain l.encoding l.document (option_map view l.value)
    (flat_map (spans_at l.offset) (drop l.part-index l.parts)) ≡ chain_at l.encoding l.document l.parts l.offset
