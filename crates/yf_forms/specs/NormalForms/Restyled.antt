-- A reading that differs from another only in the styles of scalars, the lines of those that are no longer folded,
-- and the brackets of collections.
use Rattle.std.specs.Prelude.{◌≡◌, ℕ, Bool, List, [], ◌∷◌}
use Rattle.yf_events.specs.Event.{EventValue, EventInText, sequence_starts, mapping_starts, scalar_node}
use Rattle.yf_events.specs.declared.lists.Lists.{Lists}
use Rattle.yf_forms.specs.declared.style.Style.{Style}
use Rattle.yf_forms.specs.Nodes.ScalarStyles.{lines_in, wanted}

-- an event with the scalar's style in the house style, and with or without brackets around a collection
abbrev pub restyled_event : Style → Bool → EventValue → EventValue
restyled_event house flow (scalar_node props style text) = scalar_node props (wanted style text house) text
restyled_event house flow (sequence_starts _ props) = sequence_starts flow props
restyled_event house flow (mapping_starts _ props) = mapping_starts flow props
restyled_event house flow e = e

-- the lines kept of an event
abbrev pub lines_of : EventValue → List (List ℕ) → List (List ℕ)
lines_of (scalar_node props style text) lines = lines_in style lines
lines_of e lines = []

abbrev pub restyled : Style → Bool → EventInText → EventInText
restyled house flow e =
    record e { event = restyled_event house flow e.event; folded = lines_of (restyled_event house flow e.event) e.folded }

-- each event of one list is in the other one in that form, in order
pub data SameButStyles (house : Style) : List EventInText → List EventInText → Type 0 where
  none_left : SameButStyles house [] []
  one_more : {e : EventInText} {es fs : List EventInText} (flow : Bool) → SameButStyles house es fs
      → SameButStyles house (e ∷ es) (restyled house flow e ∷ fs)

-- everything but the events is equal
pub record IsRestyled (house : Style) (r m : Lists) : Type 0 where
  pub events : SameButStyles house r.events m.events
  pub rest : m ≡ record r { events = m.events }
