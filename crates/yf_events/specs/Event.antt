-- The value of an event in a contract. Its names and texts are lists of bytes.
use Rattle.std.specs.Prelude.{ℕ, zero, suc, Bool, List, [], ◌∷◌, Option, Some, map}
use Rattle.yf_lines.specs.Text.{text_bytes}
use Rattle.yf_props.specs.Props.{PropsValue, no_props, props_value}
use Rattle.yf_events.specs.declared.event.Entry.{Entry}
use Rattle.yf_events.specs.declared.event.Event.{Event}
use Rattle.yf_events.specs.declared.event.Event.TheVariants.{StreamStart, StreamEnd, DocStart, DocEnd, SeqStart, SeqEnd, MapStart, MapEnd, Scalar, Alias}
use Rattle.yf_events.specs.declared.event.NewEvent.{NewEvent}
use Rattle.yf_events.specs.declared.event.NewEvent.TheVariants as New
use Rattle.yf_events.specs.declared.event.PlacedEvent.{PlacedEvent}
use Rattle.yf_events.specs.declared.event.ScalarStyle.{ScalarStyle}
use Rattle.yf_events.specs.declared.event.Span.{Span}
use Rattle.yf_events.specs.declared.event.View.{View}

pub data EventValue : Type 0 where
  stream_starts : EventValue
  stream_ends : EventValue
  -- whether `---` or `...` is written
  document_starts : Bool → EventValue
  document_ends : Bool → EventValue
  -- whether it is a flow collection
  sequence_starts : Bool → PropsValue → EventValue
  sequence_ends : EventValue
  mapping_starts : Bool → PropsValue → EventValue
  mapping_ends : EventValue
  scalar_node : PropsValue → ScalarStyle → List ℕ → EventValue
  alias_node : List ℕ → EventValue

-- the properties of a node
abbrev pub props_of : EventValue → PropsValue
props_of (scalar_node props style text) = props
props_of (sequence_starts flow props) = props
props_of (mapping_starts flow props) = props
props_of _ = no_props

abbrev pub event_value : Event → EventValue
event_value StreamStart = stream_starts
event_value StreamEnd = stream_ends
event_value (DocStart explicit) = document_starts explicit
event_value (DocEnd explicit) = document_ends explicit
event_value (SeqStart flow props) = sequence_starts flow (props_value props)
event_value SeqEnd = sequence_ends
event_value (MapStart flow props) = mapping_starts flow (props_value props)
event_value MapEnd = mapping_ends
event_value (Scalar props style text) = scalar_node (props_value props) style text.now
event_value (Alias name) = alias_node name.now

-- the value of an event to be added
abbrev pub new_event_value : NewEvent → EventValue
new_event_value New.StreamStart = stream_starts
new_event_value New.StreamEnd = stream_ends
new_event_value (New.DocStart explicit) = document_starts explicit
new_event_value (New.DocEnd explicit) = document_ends explicit
new_event_value (New.SeqStart flow props) = sequence_starts flow (props_value props)
new_event_value New.SeqEnd = sequence_ends
new_event_value (New.MapStart flow props) = mapping_starts flow (props_value props)
new_event_value New.MapEnd = mapping_ends
new_event_value (New.Scalar props style text) = scalar_node (props_value props) style (text_bytes text)
new_event_value (New.Alias name) = alias_node name.now

-- an event with its offsets
pub record EventInText : Type 0 where
  pub event : EventValue
  -- the node's text with its properties
  pub span : Option Span
  -- the start of its tag
  pub tag_offset : Option ℕ
  -- the entry that it begins, as its item or key
  pub entry : Option Entry
  -- the lines of a folded scalar
  pub folded : List (List ℕ)

abbrev pub placed_value : PlacedEvent → EventInText
placed_value e =
    record { event = new_event_value e.event; span = e.span; tag_offset = e.tag_offset; entry = e.entry; folded = e.folded }

abbrev pub view_value : View → EventInText
view_value v =
    record { event = event_value v.event; span = v.span; tag_offset = v.tag_offset; entry = v.entry; folded = map (λ line. line.now) v.folded.now }

-- the events, with this entry for the event at an index
abbrev pub with_entry : List EventInText → ℕ → Entry → List EventInText
with_entry [] i entry = []
with_entry (e ∷ es) zero entry = record e { entry = Some entry } ∷ es
with_entry (e ∷ es) (suc i) entry = e ∷ with_entry es i entry
