-- The edits so far.
use Rattle.std.proofs.Common.{◌≡◌, map, take}
use Rattle.serde_json.specs.View.{view}
use Rattle.yf_server.specs.Edits.{edit_data}
use Rattle.yf_server.proofs.edits.edits_value.Given as goal

abbrev pub invariant-loop-edit : goal.invariant-loop-edit
invariant-loop-edit l = map view l.values.items ≡ map edit_data (take l.edit-index l.edits)
