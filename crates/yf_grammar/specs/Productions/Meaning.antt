-- The meaning of a production: its events with their offsets, its comments, and the offsets of its escapes that are no
-- character, each in text order, and the end of its last node with characters or its last indicator.
use Rattle.std.specs.Prelude.{ℕ, Bool, true, false, List, [], ◌∷◌, ◌++◌, Option, Some, None}
use Rattle.yf_comments.specs.Comment.{CommentValue}
use Rattle.yf_props.specs.Props.{PropsValue, no_props}
use Rattle.yf_events.specs.Event.{EventValue, EventInText, sequence_starts, sequence_ends, mapping_starts, mapping_ends, scalar_node, alias_node}
use Rattle.yf_events.specs.declared.event.Entry.{Entry}
use Rattle.yf_events.specs.declared.event.ScalarStyle.{ScalarStyle}
use Rattle.yf_events.specs.declared.event.ScalarStyle.TheVariants.{Plain}
use Rattle.yf_events.specs.declared.event.Span.{Span}

pub record Meaning : Type 0 where
  pub events : List EventInText
  pub comments : List CommentValue
  pub escapes : List ℕ
  pub finish : ℕ

-- one part after another
infixl 5 ◌⊕◌
unfoldable pub ◌⊕◌ : Meaning → Meaning → Meaning
x ⊕ y = record {
  events = x.events ++ y.events;
  comments = x.comments ++ y.comments;
  escapes = x.escapes ++ y.escapes;
  finish = y.finish;
}

-- comments before a part, and after it
unfoldable pub meaning_after : List CommentValue → Meaning → Meaning
meaning_after cs x = record x { comments = cs ++ x.comments }

unfoldable pub noting : Meaning → List CommentValue → Meaning
noting x cs = record x { comments = x.comments ++ cs }

-- an event that begins no entry
unfoldable pub plain_event : EventValue → Option Span → EventInText
plain_event event span = record { event = event; span = span; tag_offset = None; entry = None; folded = [] }

unfoldable pub from_to : ℕ → ℕ → Option Span
from_to i j = Some (record { start = i; end = j })

-- a scalar without properties, an alias, and an empty node, which has no span
unfoldable pub scalar : ScalarStyle → List ℕ → List ℕ → ℕ → ℕ → Meaning
scalar style text escapes i j = record {
  events = plain_event (scalar_node no_props style text) (from_to i j) ∷ [];
  comments = [];
  escapes = escapes;
  finish = j;
}

unfoldable pub alias_to : List ℕ → ℕ → ℕ → Meaning
alias_to name i j = record { events = plain_event (alias_node name) (from_to i j) ∷ []; comments = []; escapes = []; finish = j }

unfoldable pub empty_node : ℕ → Meaning
empty_node finish = record { events = plain_event (scalar_node no_props Plain []) None ∷ []; comments = []; escapes = []; finish = finish }

-- a collection's events around those of its entries: a sequence or a mapping, in flow style or not
abbrev pub start_of : Bool → Bool → EventValue
start_of true flow = sequence_starts flow no_props
start_of false flow = mapping_starts flow no_props

abbrev pub end_of : Bool → EventValue
end_of true = sequence_ends
end_of false = mapping_ends

unfoldable pub collection : Bool → Bool → ℕ → ℕ → Meaning → Meaning
collection sequence flow i j x = record x {
  events = plain_event (start_of sequence flow) (from_to i j) ∷ (x.events ++ (plain_event (end_of sequence) None ∷ []));
  finish = j;
}

-- the properties, from an offset on, of the node that an event begins
abbrev pub event_with : PropsValue → EventValue → EventValue
event_with props (sequence_starts flow _) = sequence_starts flow props
event_with props (mapping_starts flow _) = mapping_starts flow props
event_with props (scalar_node _ style text) = scalar_node props style text
event_with props e = e

abbrev pub span_since : ℕ → ℕ → Option Span → Option Span
span_since i j (Some span) = from_to i span.end
span_since i j None = from_to i j

-- the properties are from i to j, and the tag begins at `tag`
abbrev pub first_with : PropsValue → Option ℕ → ℕ → ℕ → List EventInText → List EventInText
first_with props tag i j [] = []
first_with props tag i j (e ∷ es) =
    record e { event = event_with props e.event; span = span_since i j e.span; tag_offset = tag } ∷ es

unfoldable pub with_props : PropsValue → Option ℕ → ℕ → ℕ → Meaning → Meaning
with_props props tag i j x = record x { events = first_with props tag i j x.events }

-- the first event begins an entry; the note whether a blank line is before it is filled in later (`Noting`)
abbrev pub first_entering : Entry → List EventInText → List EventInText
first_entering entry [] = []
first_entering entry (e ∷ es) = record e { entry = Some entry } ∷ es

unfoldable pub entering : ℕ → Option ℕ → Meaning → Meaning
entering start colon x = record x { events = first_entering (record { start = start; colon = colon; blank_before = false }) x.events }
