-- The resolved tags of events, kept only for events that have one.
use Rattle.std.specs.Prelude.{ℕ, zero, suc, ◌<◌, ◌==◌, List, [], ◌∷◌, ◌++◌, length, slice_index_or, Option, Some, None, if◌then◌else◌}
use Rattle.yf_props.specs.Props.{TagValue}
use Rattle.yf_events.specs.Event.{EventValue, scalar_node, sequence_starts, mapping_starts}
use Rattle.yf_events.specs.declared.tags.TaggedEvent.{TaggedEvent}

-- the tag that is kept for an event
abbrev pub tag_at : List TaggedEvent → ℕ → Option (List ℕ)
tag_at [] i = None
tag_at (t ∷ ts) i = if t.event == i then Some t.tag else tag_at ts i

-- the tag or none of each of the first events
abbrev pub tags_listed : ℕ → List TaggedEvent → List (Option (List ℕ))
tags_listed zero ts = []
tags_listed (suc n) ts = tags_listed n ts ++ tag_at ts n ∷ []

-- the event of the tag at an index
abbrev pub event_at : List TaggedEvent → ℕ → ℕ
event_at ts k = let t = slice_index_or ts k (record { event = 0; tag = [] }) in t.event

-- the tags are in the order of their events, which are among the first `count`
pub record TagsInOrder (count : ℕ) (ts : List TaggedEvent) : Type 0 where
  pub rise : (j k : ℕ) → j < k → k < length ts → event_at ts j < event_at ts k
  pub within : (k : ℕ) → k < length ts → event_at ts k < count

-- the tag of the node that an event begins, as it is written
abbrev pub written_tag : EventValue → Option TagValue
written_tag (scalar_node props style text) = props.tag
written_tag (sequence_starts flow props) = props.tag
written_tag (mapping_starts flow props) = props.tag
written_tag _ = None
