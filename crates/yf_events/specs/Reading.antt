-- The conditions for a reading: lists that fit each other, and events that are well nested.
use Rattle.std.specs.Prelude.{option_map, slice_get, ℕ, Bool, true, false, List, [], ◌∷◌, ◌++◌, Option, Some, None, length, map, ◌≡◌, count_by, nat_lt}
use Rattle.yf_events.specs.Event.{EventValue, EventInText, scalar_node, alias_node, sequence_starts, sequence_ends, mapping_starts, mapping_ends}
use Rattle.yf_events.specs.Nested.{IsStream}
use Rattle.yf_events.specs.declared.event.Entry.{Entry}
use Rattle.yf_events.specs.declared.event.Span.{Span}
use Rattle.yf_events.specs.declared.lists.Lists.{Lists}
use Rattle.yf_events.specs.declared.reading.TheConstants.{DEPTH}

-- the events themselves
abbrev pub events_of : Lists → List EventValue
events_of r = map (λ e. e.event) r.events

-- the span, the entry and the lines of each event
abbrev pub spans_of : Lists → List (Option Span)
spans_of r = map (λ e. e.span) r.events

abbrev pub entries_of : Lists → List (Option Entry)
entries_of r = map (λ e. e.entry) r.events

abbrev pub folded_of : Lists → List (List (List ℕ))
folded_of r = map (λ e. e.folded) r.events

-- each event has its resolved tag or none, and each comment its note
pub record ListsFit (r : Lists) : Type 0 where
  pub tags : length r.resolved ≡ length r.events
  pub notes : length r.on_leaf_line ≡ length r.comments

-- the event ends a collection
abbrev pub is_end : EventValue → Bool
is_end sequence_ends = true
is_end mapping_ends = true
is_end _ = false

-- the next event is the end of a collection
abbrev pub ends_next : List EventInText → Bool
ends_next [] = false
ends_next (e ∷ rest) = is_end e.event

-- the event begins a leaf: a scalar, an alias, or a collection that the next event ends
abbrev pub begins_leaf : EventValue → List EventInText → Bool
begins_leaf (scalar_node _ _ _) rest = true
begins_leaf (alias_node _) rest = true
begins_leaf (sequence_starts _ _) rest = ends_next rest
begins_leaf (mapping_starts _ _) rest = ends_next rest
begins_leaf _ rest = false

-- whether the event begins a leaf, by whether the next event ends a collection
abbrev pub leaf_if : EventValue → Bool → Bool
leaf_if (scalar_node _ _ _) ends = true
leaf_if (alias_node _) ends = true
leaf_if (sequence_starts _ _) ends = ends
leaf_if (mapping_starts _ _) ends = ends
leaf_if _ ends = false

-- the first of the events begins a leaf
abbrev pub first_begins_leaf : List EventInText → Bool
first_begins_leaf [] = false
first_begins_leaf (e ∷ rest) = begins_leaf e.event rest

-- the starts of the leaves with characters; an empty node has no span and no start
abbrev pub start_in : Bool → Option Span → List ℕ
start_in true (Some span) = span.start ∷ []
start_in true None = []
start_in false span = []

abbrev pub leaf_starts : List EventInText → List ℕ
leaf_starts [] = []
leaf_starts (e ∷ rest) = start_in (begins_leaf e.event rest) e.span ++ leaf_starts rest

-- the first of the events begins a leaf with characters before the offset
abbrev pub before_if : Bool → Option Span → ℕ → Bool
before_if true (Some span) offset = nat_lt span.start offset
before_if true None offset = false
before_if false span offset = false

abbrev pub first_begins_before : ℕ → List EventInText → Bool
first_begins_before offset [] = false
first_begins_before offset (e ∷ rest) = before_if (begins_leaf e.event rest) e.span offset

-- the place of a comment at an offset: the number of documents that begin before it, and of leaves with characters
abbrev pub documents_before : Lists → ℕ → ℕ
documents_before r offset = count_by (λ d. nat_lt d.start offset) r.documents

abbrev pub leaves_before : Lists → ℕ → ℕ
leaves_before r offset = count_by (λ start. nat_lt start offset) (leaf_starts r.events)

-- the place of the comment at an index
abbrev pub place_at : Lists → ℕ → Option (ℕ × ℕ)
place_at r k = option_map (λ c. (documents_before r c.offset, leaves_before r c.offset)) (slice_get r.comments k)

-- the property of every reading
pub record IsReading (r : Lists) : Type 0 where
  pub fits : ListsFit r
  pub stream : IsStream DEPTH (events_of r)
