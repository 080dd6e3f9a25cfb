-- The events of a reading have no offsets and no lines but those of its trees.
use Rattle.std.specs.Prelude.{◌≡◌, Bool, true, false, [], length, All, count_by}
use Rattle.yf_events.specs.Event.{EventValue, EventInText, document_starts, sequence_starts, mapping_starts, scalar_node, alias_node}
use Rattle.yf_events.specs.declared.lists.Lists.{Lists}
use Rattle.yf_events.specs.Tree.{unplaced}

abbrev pub begins_node : EventValue → Bool
begins_node (scalar_node props style text) = true
begins_node (alias_node name) = true
begins_node (sequence_starts flow props) = true
begins_node (mapping_starts flow props) = true
begins_node _ = false

abbrev pub is_scalar : EventValue → Bool
is_scalar (scalar_node props style text) = true
is_scalar _ = false

abbrev pub begins_document : EventValue → Bool
begins_document (document_starts marked) = true
begins_document _ = false

-- an event that begins no node has no text of its own, and one that is not a scalar has no lines
pub record IsWellPlaced (e : EventInText) : Type 0 where
  pub place : begins_node e.event ≡ false → e ≡ unplaced e.event
  pub lines : is_scalar e.event ≡ false → e.folded ≡ []

-- all events are well placed, and the list of documents has one for each that begins
pub record WellPlaced (r : Lists) : Type 0 where
  pub events : All IsWellPlaced r.events
  pub documents : length r.documents ≡ count_by (λ e. begins_document e.event) r.events
