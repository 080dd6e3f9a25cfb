-- Flow collections among the events of a reading: which events are in one, and the state of a pass over the events.
use Rattle.std.specs.Prelude.{◌≡◌, ℕ, ◌+◌, ◌<◌, ◌≤◌, ◌⊎◌, Bool, true, false, List, codes, length, Option, Some, None}
use Rattle.yf_forms.specs.Nodes.ContentStart.{content_start}
use Rattle.yf_forms.specs.Nodes.SingleNodes.{NodeAt}
use Rattle.yf_events.specs.Event.{EventValue, EventInText, sequence_starts, mapping_starts}
use Rattle.yf_events.specs.Tree.{Node, scalar, alias, sequence, mapping, flat}
use Rattle.yf_events.specs.declared.event.Span.{Span}
use Rattle.yf_props.specs.Props.{PropsValue}

abbrev pub is_flow : Node → Bool
is_flow (scalar at props style text lines) = false
is_flow (alias at name) = false
is_flow (sequence at flow props items) = flow
is_flow (mapping at flow props pairs) = flow

abbrev pub starts_flow : EventValue → Bool
starts_flow (sequence_starts flow props) = flow
starts_flow (mapping_starts flow props) = flow
starts_flow _ = false

-- the event at the index i is in no flow collection; it may begin one
pub record IsOutsideFlow (es : List EventInText) (i : ℕ) : Type 0 where
  pub outside : (j : ℕ) (y : Node) → NodeAt es j y → is_flow y ≡ true → j < i → j + length (flat y) ≤ i

-- each flow collection that begins before the index i ends before i, or at the latest with the event of the index
-- `done`; `done` is 0 or the index of the last event of one of them
pub record FlowsDone (es : List EventInText) (i done : ℕ) : Type 0 where
  pub bound : (j : ℕ) (y : Node) → NodeAt es j y → is_flow y ≡ true → j < i → (j + length (flat y) ≤ i) ⊎ (j + length (flat y) ≤ done + 1)
  pub reached : (done ≡ 0) ⊎ ((j : ℕ) × (y : Node) × NodeAt es j y × (is_flow y ≡ true) × (j < i) × (done + 1 ≡ j + length (flat y)))

-- the span of a flow collection from bracket to bracket, without its properties
abbrev pub bracketed : List ℕ → PropsValue → Span → Span
bracketed t props span = record { start = content_start t span props; end = span.end }

-- that span for an event, if it begins a flow collection with a span
abbrev pub brackets : List ℕ → EventValue → Option Span → Option Span
brackets t (sequence_starts true props) (Some span) = Some (bracketed t props span)
brackets t (mapping_starts true props) (Some span) = Some (bracketed t props span)
brackets t _ _ = None

-- the text of an empty collection that begins with that event, from bracket to bracket
abbrev pub empty_text : EventValue → List ℕ
empty_text (mapping_starts flow props) = codes "{}"
empty_text _ = codes "[]"
