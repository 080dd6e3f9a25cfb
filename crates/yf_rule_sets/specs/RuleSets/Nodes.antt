-- Nodes within nodes in the trees of a reading, and repeated keys. An index counts events from 0.
use Rattle.std.specs.Prelude.{◌≡◌, ℕ, ◌+◌, ◌<◌, List, [], ◌∷◌, length, slice_get, Option, Some, None}
use Rattle.std.specs.List.{Contains}
use Rattle.yf_events.specs.Tree.{Node, scalar, sequence, mapping, Items, no_items, item, Pairs, no_pairs, pair, DocumentTree, flat, flat_document, standing}
use Rattle.yf_events.specs.declared.event.Entry.{Entry}
use Rattle.yf_events.specs.declared.event.Span.{Span}
use Rattle.yf_events.specs.declared.lists.Lists.{Lists}

-- Nodes, each with the index of the event that begins it.

abbrev pub NumberedNode : Type 0
NumberedNode = ℕ × Node

-- a key with its value
abbrev pub NumberedPair : Type 0
NumberedPair = NumberedNode × NumberedNode

-- the nodes of entries, if the first one begins at index i
abbrev pub items_from : ℕ → Items → List NumberedNode
items_from i no_items = []
items_from i (item x xs) = (i, x) ∷ items_from (i + length (flat x)) xs

abbrev pub pairs_from : ℕ → Pairs → List NumberedPair
pairs_from i no_pairs = []
pairs_from i (pair k v ps) = ((i, k), (i + length (flat k), v)) ∷ pairs_from (i + length (flat k) + length (flat v)) ps

-- the nodes directly in a node that begins at index i: its items, and its pairs
abbrev pub items_of : ℕ → Node → List NumberedNode
items_of i (sequence at flow props items) = items_from (i + 1) items
items_of i _ = []

abbrev pub pairs_of : ℕ → Node → List NumberedPair
pairs_of i (mapping at flow props pairs) = pairs_from (i + 1) pairs
pairs_of i _ = []

-- the roots of documents, if the first document begins at index i
abbrev pub roots_from : ℕ → List DocumentTree → List NumberedNode
roots_from i [] = []
roots_from i (d ∷ ds) = (i + 1, d.root) ∷ roots_from (i + length (flat_document d)) ds

-- a node is directly in the node x, as an item, a key or a value
pub data IsChildOf (x : NumberedNode) : NumberedNode → Type 0 where
  as_item : {y : NumberedNode} → Contains (items_of x.0 x.1) y → IsChildOf x y
  as_key : {k v : NumberedNode} → Contains (pairs_of x.0 x.1) (k, v) → IsChildOf x k
  as_value : {k v : NumberedNode} → Contains (pairs_of x.0 x.1) (k, v) → IsChildOf x v

-- a node is in these trees: a root, or in another node
pub data IsNodeOf (trees : List DocumentTree) : NumberedNode → Type 0 where
  is_root : {x : NumberedNode} → Contains (roots_from 1 trees) x → IsNodeOf trees x
  is_inner : {x y : NumberedNode} → IsNodeOf trees x → IsChildOf x y → IsNodeOf trees y

-- Repeated keys.

-- the offset of a key: the start of its span, or, if it is empty, its `:`, or its `?` if the entry has no `:`
abbrev pub colon_or : ℕ → Option ℕ → ℕ
colon_or start None = start
colon_or start (Some colon) = colon

abbrev pub entry_place : Option Entry → ℕ
entry_place None = 0
entry_place (Some entry) = colon_or entry.start entry.colon

abbrev pub place_or : Option Span → ℕ → ℕ
place_or None other = other
place_or (Some span) other = span.start

abbrev pub key_place : Node → ℕ
key_place k = place_or (standing k).span (entry_place (standing k).entry)

-- the text of a scalar
abbrev pub scalar_text : Node → Option (List ℕ)
scalar_text (scalar at props style text lines) = Some text
scalar_text _ = None

-- repeated-keys: a scalar key with the text and the resolved tag of an earlier scalar key of its mapping
pub data RepeatedKey (r : Lists) (trees : List DocumentTree) (i : ℕ) : ℕ → Type 0 where
  repeats : {x k v l w : NumberedNode} {text : List ℕ} → IsNodeOf trees x → Contains (pairs_of x.0 x.1) (k, v) → Contains (pairs_of x.0 x.1) (l, w) → l.0 < k.0 → k.0 ≡ i
      → scalar_text k.1 ≡ Some text → scalar_text l.1 ≡ Some text → slice_get r.resolved k.0 ≡ slice_get r.resolved l.0
      → RepeatedKey r trees i (key_place k.1)
