-- The events of a reading, with each event outside of its flow collections replaced by `stream_starts` without a span.
use Rattle.std.specs.Prelude.{ℕ, zero, suc, Bool, false, not, if◌then◌else◌, List, [], ◌∷◌, Option, None}
use Rattle.yf_events.specs.Event.{EventValue, EventInText, sequence_starts, sequence_ends, mapping_starts, mapping_ends, stream_starts}
use Rattle.yf_events.specs.Tree.{Node, scalar, alias, sequence, mapping}
use Rattle.yf_events.specs.declared.event.Span.{Span}

abbrev pub is_flow : Node → Bool
is_flow (scalar at props style text lines) = false
is_flow (alias at name) = false
is_flow (sequence at flow props items) = flow
is_flow (mapping at flow props pairs) = flow

abbrev pub begins_flow : EventValue → Bool
begins_flow (sequence_starts flow props) = flow
begins_flow (mapping_starts flow props) = flow
begins_flow _ = false

abbrev pub one_less : ℕ → ℕ
one_less zero = zero
one_less (suc d) = d

-- the number of open collections after an event of a flow collection
abbrev pub depth_after : ℕ → EventValue → ℕ
depth_after d (sequence_starts flow props) = suc d
depth_after d (mapping_starts flow props) = suc d
depth_after d sequence_ends = one_less d
depth_after d mapping_ends = one_less d
depth_after d _ = d

-- whether an event is outside of all flow collections and begins none
abbrev pub is_outside : ℕ → EventValue → Bool
is_outside zero e = not (begins_flow e)
is_outside (suc d) e = false

abbrev pub next_depth : ℕ → EventValue → ℕ
next_depth d e = if is_outside d e then zero else depth_after d e

abbrev pub event_seen : ℕ → EventValue → EventValue
event_seen d e = if is_outside d e then stream_starts else e

abbrev pub span_seen : ℕ → EventValue → Option Span → Option Span
span_seen d e span = if is_outside d e then None else span

abbrev pub seen : ℕ → EventInText → EventInText
seen d e = record e { event = event_seen d e.event; span = span_seen d e.event e.span }

abbrev pub flows_alone : ℕ → List EventInText → List EventInText
flows_alone d [] = []
flows_alone d (e ∷ es) = seen d e ∷ flows_alone (next_depth d e.event) es

-- the number of open collections after all these events
abbrev pub depths : ℕ → List EventInText → ℕ
depths d [] = d
depths d (e ∷ es) = depths (next_depth d e.event) es
