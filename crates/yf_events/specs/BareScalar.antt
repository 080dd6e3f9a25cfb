-- A scalar without properties, with its span and the entry that it begins.
use Rattle.std.specs.Prelude.{ℕ, List, [], Option, Some, None}
use Rattle.yf_props.specs.Props.{no_props}
use Rattle.yf_events.specs.Event.{EventInText, scalar_node}
use Rattle.yf_events.specs.Packed.{RowOf}
use Rattle.yf_events.specs.declared.event.Entry.{Entry}
use Rattle.yf_events.specs.declared.event.ScalarStyle.{ScalarStyle}
use Rattle.yf_events.specs.declared.packed.More.{More}
use Rattle.yf_events.specs.declared.packed.PackedEvent.{PackedEvent}

abbrev pub bare_scalar : ScalarStyle → List ℕ → ℕ → ℕ → Option Entry → EventInText
bare_scalar style text start end entry =
    record { event = scalar_node no_props style text; span = Some (record { start = start; end = end }); tag_offset = None; entry = entry; folded = [] }

-- a row is this event, with any table
abbrev pub RowAlone : PackedEvent → EventInText → Type 0
RowAlone r e = (more : List More) → RowOf more r e
