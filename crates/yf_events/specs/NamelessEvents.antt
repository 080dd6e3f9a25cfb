-- Events that name nothing: they begin no document, no node with an anchor or a tag, and are not aliases.
use Rattle.std.specs.Prelude.{◌≡◌, ℕ, Bool, true, false, List, Some, map, slice_get}
use Rattle.yf_props.specs.Props.{no_props}
use Rattle.yf_events.specs.Event.{EventValue, EventInText, stream_starts, stream_ends, document_starts, document_ends, sequence_starts, sequence_ends, mapping_starts, mapping_ends, scalar_node, alias_node}
use Rattle.yf_events.specs.Packed.{more_at, props_in, shape_value, text_in}
use Rattle.yf_events.specs.declared.packed.More.{More}
use Rattle.yf_events.specs.declared.packed.PackedEvent.{PackedEvent}
use Rattle.yf_events.specs.declared.packed.Shape.{Shape}
use Rattle.yf_events.specs.declared.packed.Shape.TheVariants.{StreamStart, StreamEnd, DocStart, DocEnd, SeqStart, SeqEnd, MapStart, MapEnd, Scalar, Alias}

abbrev pub NamesNothing : EventValue → Type 0
NamesNothing stream_starts = Unit {0}
NamesNothing stream_ends = Unit {0}
NamesNothing (document_starts marked) = ⊥
NamesNothing (document_ends marked) = Unit {0}
NamesNothing (sequence_starts flow props) = props ≡ no_props
NamesNothing sequence_ends = Unit {0}
NamesNothing (mapping_starts flow props) = props ≡ no_props
NamesNothing mapping_ends = Unit {0}
NamesNothing (scalar_node props style text) = props ≡ no_props
NamesNothing (alias_node name) = ⊥

-- the event at an index names nothing
pub record NothingAt (es : List EventInText) (i : ℕ) : Type 0 where
  pub event : EventValue
  pub there : slice_get (map (λ e. e.event) es) i ≡ Some event
  pub names : NamesNothing event

-- whether a shape names nothing, if its node has no properties
abbrev pub names_nothing : Shape → Bool
names_nothing StreamStart = true
names_nothing StreamEnd = true
names_nothing (DocStart explicit) = false
names_nothing (DocEnd explicit) = true
names_nothing (SeqStart flow) = true
names_nothing SeqEnd = true
names_nothing (MapStart flow) = true
names_nothing MapEnd = true
names_nothing (Scalar style) = true
names_nothing Alias = false

-- a row names nothing
abbrev pub SilentRow : List More → PackedEvent → Type 0
SilentRow more r = NamesNothing (shape_value r.shape (props_in (more_at more r.more)) (text_in (more_at more r.more) r.text.now))

pub record SilentAt (more : List More) (rows : List PackedEvent) (i : ℕ) : Type 0 where
  pub row : PackedEvent
  pub there : slice_get rows i ≡ Some row
  pub silent : SilentRow more row
