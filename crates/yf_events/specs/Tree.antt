-- A reading as trees: one node for each document, and each node with its offsets in the text.
use Rattle.std.specs.Prelude.{◌≡◌, ℕ, Bool, false, true, not, is_some, List, [], ◌∷◌, ◌++◌, map, flat_map, length, Option, Some, None}
use Rattle.yf_props.specs.Props.{PropsValue, no_props}
use Rattle.yf_events.specs.Event.{EventValue, EventInText, stream_starts, stream_ends, document_starts, document_ends, sequence_starts, sequence_ends, mapping_starts, mapping_ends, scalar_node, alias_node}
use Rattle.yf_events.specs.declared.event.Entry.{Entry}
use Rattle.yf_events.specs.declared.event.ScalarStyle.{ScalarStyle}
use Rattle.yf_events.specs.declared.event.Span.{Span}
use Rattle.yf_events.specs.declared.lists.Lists.{Lists}

-- the offsets of a node: its text with its properties, the start of its tag, and the entry that it begins
pub record NodeOffsets : Type 0 where
  pub span : Option Span
  pub tag_offset : Option ℕ
  pub entry : Option Entry

mutual
  -- the flag of a collection is whether it is a flow collection
  pub data Node : Type 0 where
    -- properties, style, text, and the lines of a folded scalar
    scalar : NodeOffsets → PropsValue → ScalarStyle → List ℕ → List (List ℕ) → Node
    alias : NodeOffsets → List ℕ → Node
    sequence : NodeOffsets → Bool → PropsValue → Items → Node
    mapping : NodeOffsets → Bool → PropsValue → Pairs → Node

  pub data Items : Type 0 where
    no_items : Items
    item : Node → Items → Items

  -- keys with their values
  pub data Pairs : Type 0 where
    no_pairs : Pairs
    pair : Node → Node → Pairs → Pairs

-- a document: whether `---` and `...` are written, and its node
pub record DocumentTree : Type 0 where
  pub marked : Bool
  pub closed : Bool
  pub root : Node

-- an event without a text of its own
abbrev pub unplaced : EventValue → EventInText
unplaced event = record { event = event; span = None; tag_offset = None; entry = None; folded = [] }

abbrev pub placed : NodeOffsets → EventValue → List (List ℕ) → EventInText
placed at event lines = record { event = event; span = at.span; tag_offset = at.tag_offset; entry = at.entry; folded = lines }

-- the events of a node, in order
abbrev mutual
  pub flat : Node → List EventInText
  flat (scalar at props style text lines) = placed at (scalar_node props style text) lines ∷ []
  flat (alias at name) = placed at (alias_node name) [] ∷ []
  flat (sequence at flow props items) = placed at (sequence_starts flow props) [] ∷ (flat_items items ++ (unplaced sequence_ends ∷ []))
  flat (mapping at flow props pairs) = placed at (mapping_starts flow props) [] ∷ (flat_pairs pairs ++ (unplaced mapping_ends ∷ []))

  pub flat_items : Items → List EventInText
  flat_items no_items = []
  flat_items (item x xs) = flat x ++ flat_items xs

  pub flat_pairs : Pairs → List EventInText
  flat_pairs no_pairs = []
  flat_pairs (pair k v ps) = flat k ++ (flat v ++ flat_pairs ps)

abbrev pub flat_document : DocumentTree → List EventInText
flat_document d = unplaced (document_starts d.marked) ∷ (flat d.root ++ (unplaced (document_ends d.closed) ∷ []))

abbrev pub flat_stream : List DocumentTree → List EventInText
flat_stream ds = unplaced stream_starts ∷ (flat_map flat_document ds ++ (unplaced stream_ends ∷ []))

-- the trees of a reading, one for each of its documents
pub record TreesOf (r : Lists) (ds : List DocumentTree) : Type 0 where
  pub events : r.events ≡ flat_stream ds
  pub documents : length r.documents ≡ length ds

-- the offsets of a node, and its properties; an alias has none
abbrev pub standing : Node → NodeOffsets
standing (scalar at props style text lines) = at
standing (alias at name) = at
standing (sequence at flow props items) = at
standing (mapping at flow props pairs) = at

abbrev pub props_of : Node → PropsValue
props_of (scalar at props style text lines) = props
props_of (alias at name) = no_props
props_of (sequence at flow props items) = props
props_of (mapping at flow props pairs) = props

-- the start of the entry that a node begins
abbrev pub starts_of_entry : Option Entry → List ℕ
starts_of_entry None = []
starts_of_entry (Some entry) = entry.start ∷ []

abbrev pub entry_start : Node → List ℕ
entry_start x = starts_of_entry (standing x).entry

-- the span of a leaf with characters; an empty node has none
abbrev pub spans_of_leaf : Option Span → List Span
spans_of_leaf None = []
spans_of_leaf (Some span) = span ∷ []

-- the leaves with characters in a node, in order; a leaf is a scalar, an alias or an empty collection
abbrev mutual
  pub leaves : Node → List Span
  leaves (scalar at props style text lines) = spans_of_leaf at.span
  leaves (alias at name) = spans_of_leaf at.span
  leaves (sequence at flow props no_items) = spans_of_leaf at.span
  leaves (sequence at flow props (item x xs)) = leaves x ++ leaves_of_items xs
  leaves (mapping at flow props no_pairs) = spans_of_leaf at.span
  leaves (mapping at flow props (pair k v ps)) = leaves k ++ (leaves v ++ leaves_of_pairs ps)

  pub leaves_of_items : Items → List Span
  leaves_of_items no_items = []
  leaves_of_items (item x xs) = leaves x ++ leaves_of_items xs

  pub leaves_of_pairs : Pairs → List Span
  leaves_of_pairs no_pairs = []
  leaves_of_pairs (pair k v ps) = leaves k ++ (leaves v ++ leaves_of_pairs ps)

-- whether a node is a leaf with characters
abbrev pub is_text : Node → Bool
is_text (scalar at props style text lines) = is_some at.span
is_text (alias at name) = is_some at.span
is_text (sequence at flow props no_items) = is_some at.span
is_text (sequence at flow props (item x xs)) = false
is_text (mapping at flow props no_pairs) = is_some at.span
is_text (mapping at flow props (pair k v ps)) = false

-- whether a node is a flow collection with entries
abbrev pub is_filled_flow : Node → Bool
is_filled_flow (scalar at props style text lines) = false
is_filled_flow (alias at name) = false
is_filled_flow (sequence at flow props no_items) = false
is_filled_flow (sequence at flow props (item x xs)) = flow
is_filled_flow (mapping at flow props no_pairs) = false
is_filled_flow (mapping at flow props (pair k v ps)) = flow

-- whether it is a block collection, which has entries
abbrev pub is_block_collection : Node → Bool
is_block_collection (scalar at props style text lines) = false
is_block_collection (alias at name) = false
is_block_collection (sequence at flow props no_items) = false
is_block_collection (sequence at flow props (item x xs)) = not flow
is_block_collection (mapping at flow props no_pairs) = false
is_block_collection (mapping at flow props (pair k v ps)) = not flow

abbrev pub is_collection : Node → Bool
is_collection (scalar at props style text lines) = false
is_collection (alias at name) = false
is_collection (sequence at flow props items) = true
is_collection (mapping at flow props pairs) = true

abbrev pub is_sequence : Node → Bool
is_sequence (scalar at props style text lines) = false
is_sequence (alias at name) = false
is_sequence (sequence at flow props items) = true
is_sequence (mapping at flow props pairs) = false

-- the starts of the leaves with characters in a node, and of the entries in it, in order
abbrev mutual
  pub items_in : Node → List ℕ
  items_in (scalar at props style text lines) = map (λ s. s.start) (spans_of_leaf at.span)
  items_in (alias at name) = map (λ s. s.start) (spans_of_leaf at.span)
  items_in (sequence at flow props no_items) = map (λ s. s.start) (spans_of_leaf at.span)
  items_in (sequence at flow props (item x xs)) = entry_start x ++ (items_in x ++ items_in_items xs)
  items_in (mapping at flow props no_pairs) = map (λ s. s.start) (spans_of_leaf at.span)
  items_in (mapping at flow props (pair k v ps)) = entry_start k ++ (items_in k ++ (items_in v ++ items_in_pairs ps))

  pub items_in_items : Items → List ℕ
  items_in_items no_items = []
  items_in_items (item x xs) = entry_start x ++ (items_in x ++ items_in_items xs)

  pub items_in_pairs : Pairs → List ℕ
  items_in_pairs no_pairs = []
  items_in_pairs (pair k v ps) = entry_start k ++ (items_in k ++ (items_in v ++ items_in_pairs ps))
