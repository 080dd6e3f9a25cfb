use Rattle.std.proofs.Common.{◌∙◌, ap, map}
use Rattle.serde_json.specs.Data.{array}
use Rattle.serde_json.specs.View.{view}
use Rattle.yf_server.proofs.SelectionLemmas.{all_selected, view_array}
use Rattle.yf_server.proofs.selections.selections_by.Goals as goal

pub returns : goal.returns
returns c = view_array c.loop-position.values
    ∙ ap array (all_selected c.args.encoding c.args.document.now c.args.parts.now
    (map view c.loop-position.values.items) c.args.positions.now c.loop-position.position-index
    c.loop-position-test.false c.loop-position.invariant)
