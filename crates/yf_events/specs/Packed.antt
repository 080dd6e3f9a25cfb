-- Events in rows of forty bytes, with a table of the parts that most nodes lack: the values of the rows.
use Rattle.std.specs.Prelude.{ℕ, zero, suc, ◌+◌, ◌≡◌, ◌≤◌, Bool, true, false, List, [], ◌∷◌, ◌++◌, Option, Some, None, length, slice_get}
use Rattle.std.specs.Borrow.{Bor}
use Rattle.yf_props.specs.Props.{PropsValue, props_value, no_props}
use Rattle.yf_events.specs.Event.{EventValue, EventInText, stream_starts, stream_ends, document_starts, document_ends, sequence_starts, sequence_ends, mapping_starts, mapping_ends, scalar_node, alias_node}
use Rattle.yf_events.specs.declared.event.Entry.{Entry}
use Rattle.yf_events.specs.declared.event.Span.{Span}
use Rattle.yf_events.specs.declared.packed.Begins.{Begins}
use Rattle.yf_events.specs.declared.packed.Begins.TheVariants.{Nothing, Item, ItemAfterBlank, Keyed, KeyedAfterBlank}
use Rattle.yf_events.specs.declared.packed.More.{More}
use Rattle.yf_events.specs.declared.packed.PackedEvent.{PackedEvent}
use Rattle.yf_events.specs.declared.packed.Shape.{Shape}
use Rattle.yf_events.specs.declared.packed.Shape.TheVariants.{StreamStart, StreamEnd, DocStart, DocEnd, SeqStart, SeqEnd, MapStart, MapEnd, Scalar, Alias}

-- the parts in the table at a number; none at 0
abbrev pub more_at : List More → ℕ → Option More
more_at more zero = None
more_at more (suc k) = slice_get more k

abbrev pub more_value : Option (Bor More) → Option More
more_value None = None
more_value (Some m) = Some m.now

abbrev pub shape_value : Shape → PropsValue → List ℕ → EventValue
shape_value StreamStart props text = stream_starts
shape_value StreamEnd props text = stream_ends
shape_value (DocStart explicit) props text = document_starts explicit
shape_value (DocEnd explicit) props text = document_ends explicit
shape_value (SeqStart flow) props text = sequence_starts flow props
shape_value SeqEnd props text = sequence_ends
shape_value (MapStart flow) props text = mapping_starts flow props
shape_value MapEnd props text = mapping_ends
shape_value (Scalar style) props text = scalar_node props style text
shape_value Alias props text = alias_node text

abbrev pub props_in : Option More → PropsValue
props_in None = no_props
props_in (Some m) = props_value m.props

-- the text of its own, or the slice otherwise
abbrev pub text_or : List ℕ → Option (List ℕ) → List ℕ
text_or part None = part
text_or part (Some text) = text

abbrev pub text_in : Option More → List ℕ → List ℕ
text_in None part = part
text_in (Some m) part = text_or part m.text

abbrev pub span_at : Bool → ℕ → ℕ → Option Span
span_at false start end = None
span_at true start end = Some (record { start = start; end = end })

abbrev pub entry_at : Begins → ℕ → ℕ → Option Entry
entry_at Nothing start colon = None
entry_at Item start colon = Some (record { start = start; colon = None; blank_before = false })
entry_at ItemAfterBlank start colon = Some (record { start = start; colon = None; blank_before = true })
entry_at Keyed start colon = Some (record { start = start; colon = Some colon; blank_before = false })
entry_at KeyedAfterBlank start colon = Some (record { start = start; colon = Some colon; blank_before = true })

-- the entry has a `:` from now on
abbrev pub keyed : Begins → Begins
keyed Nothing = Nothing
keyed Item = Keyed
keyed ItemAfterBlank = KeyedAfterBlank
keyed Keyed = Keyed
keyed KeyedAfterBlank = KeyedAfterBlank

abbrev pub tag_offset_in : Option More → Option ℕ
tag_offset_in None = None
tag_offset_in (Some m) = m.tag_offset

abbrev pub folded_in : Option More → List (List ℕ)
folded_in None = []
folded_in (Some m) = m.folded

abbrev pub row_with : PackedEvent → Option More → EventInText
row_with r m = record {
  event = shape_value r.shape (props_in m) (text_in m r.text.now);
  span = span_at r.placed r.start r.end;
  tag_offset = tag_offset_in m;
  entry = entry_at r.begins r.entry r.colon;
  folded = folded_in m;
}

-- the value of a row
abbrev pub row_value : List More → PackedEvent → EventInText
row_value more r = row_with r (more_at more r.more)

-- each row's number is in the table, or 0
abbrev pub RowsFit : List More → List PackedEvent → Type 0
RowsFit more [] = 0 ≤ length more
RowsFit more (r ∷ rows) = (r.more ≤ length more) × RowsFit more rows

-- a row's number after more entries before it in the table, if it has one
abbrev pub moved_on : ℕ → ℕ → ℕ
moved_on by zero = zero
moved_on by (suc k) = suc k + by

abbrev pub shifted : ℕ → PackedEvent → PackedEvent
shifted by r = record r { more = moved_on by r.more }

-- a table that may have grown
pub record TableGrown (old new : List More) : Type 0 where
  pub added : List More
  pub is : new ≡ old ++ added

-- the parts that a row can do without
pub record Lacks (m : More) : Type 0 where
  pub props : props_value m.props ≡ no_props
  pub tag_offset : m.tag_offset ≡ None
  pub text : m.text ≡ None
  pub folded : m.folded ≡ []

-- the number of these parts in the table, or 0 if a row can do without them
pub data InTable (more : List More) : ℕ → More → Type 0 where
  kept_none : {m : More} → Lacks m → InTable more 0 m
  kept_at : {k : ℕ} {m : More} → slice_get more k ≡ Some m → InTable more (suc k) m

-- a row with the value of an event
pub record RowOf (more : List More) (r : PackedEvent) (e : EventInText) : Type 0 where
  pub fits : r.more ≤ length more
  pub is : row_value more r ≡ e
