-- The steps of the pass, event by event.
use Rattle.std.specs.Prelude.{ℕ, Bool, true, false, if◌then◌else◌, List, [], ◌∷◌, ◌++◌, Option}
use Rattle.yf_events.specs.Event.{EventValue, EventInText, stream_starts, stream_ends, document_starts, document_ends, sequence_starts, sequence_ends, mapping_starts, mapping_ends, scalar_node, alias_node}
use Rattle.yf_events.specs.declared.event.ScalarStyle.{ScalarStyle}
use Rattle.yf_events.specs.declared.event.Span.{Span}
use Rattle.yf_guard.specs.Collections.{after, closed, is_template_seen, opened}
use Rattle.yf_guard.specs.Guards.{is_empty_scalar, no_data, start_of, template_if}
use Rattle.yf_guard.specs.declared.guarded.Guarded.{Guarded}
use Rattle.yf_guard.specs.declared.open_collection.NodeKind.{NodeKind}
use Rattle.yf_guard.specs.declared.open_collection.NodeKind.TheVariants.{Empty, Other}
use Rattle.yf_guard.specs.declared.open_collection.OpenCollection.{OpenCollection}
use Rattle.yf_props.specs.Props.{PropsValue}

abbrev pub scalar_kind : PropsValue → ScalarStyle → List ℕ → NodeKind
scalar_kind props style text = if is_empty_scalar props style text then Empty else Other

-- the open collections, the innermost first, after one event
abbrev pub next : EventValue → Option Span → List OpenCollection → List OpenCollection
next stream_starts span st = st
next stream_ends span st = st
next (document_starts marked) span st = st
next (document_ends marked) span st = st
next (sequence_starts flow props) span st = opened flow (start_of span) ∷ st
next sequence_ends span st = closed false st
next (mapping_starts flow props) span st = opened flow (start_of span) ∷ st
next mapping_ends span st = closed true st
next (scalar_node props style text) span st = after (scalar_kind props style text) st
next (alias_node name) span st = after Other st

-- the faults found at one event

abbrev pub found_if : Bool → List Guarded → List Guarded
found_if true found = found
found_if false found = []

-- a node is a root if no collection is open
abbrev pub is_root : List OpenCollection → Bool
is_root [] = true
is_root (c ∷ st) = false

abbrev pub template_of : Bool → OpenCollection → List Guarded
template_of true c = template_if (is_template_seen c.seen) c.offset
template_of false c = []

abbrev pub templates_closed : Bool → List OpenCollection → List Guarded
templates_closed is_map [] = []
templates_closed is_map (c ∷ st) = template_of is_map c

abbrev pub found_by : List ℕ → EventValue → Option Span → List OpenCollection → List Guarded
found_by t stream_starts span st = []
found_by t stream_ends span st = []
found_by t (document_starts marked) span st = []
found_by t (document_ends marked) span st = []
found_by t (sequence_starts flow props) span st = []
found_by t sequence_ends span st = templates_closed false st
found_by t (mapping_starts flow props) span st = []
found_by t mapping_ends span st = templates_closed true st
found_by t (scalar_node props style text) span st = found_if (is_root st) (no_data t props style span)
found_by t (alias_node name) span st = []

-- the faults found from an event on
abbrev pub run : List ℕ → List OpenCollection → List EventInText → List Guarded
run t st [] = []
run t st (e ∷ es) = found_by t e.event e.span st ++ run t (next e.event e.span st) es
