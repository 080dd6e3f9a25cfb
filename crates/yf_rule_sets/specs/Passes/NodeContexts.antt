-- What is around each node of a reading: nothing, or a collection with the column of its entries, if known. A pass over
-- the events finds it step by step; so do functions on trees. An index counts events from 0. Here two functions of an
-- index give the column of the entries of the block collection that begins there, and whether an entry that begins
-- there has no `?`.
use Rattle.std.specs.Prelude.{ℕ, ◌+◌, Bool, true, false, ◌&&◌, if◌then◌else◌, List, [], ◌∷◌, ◌++◌, drop, length, Option, Some, None}
use Rattle.std.specs.List.{Contains}
use Rattle.yf_events.specs.Event.{EventValue, EventInText, stream_starts, stream_ends, document_starts, document_ends, sequence_starts, sequence_ends, mapping_starts, mapping_ends, scalar_node, alias_node}
use Rattle.yf_events.specs.Tree.{Node, scalar, alias, sequence, mapping, Items, no_items, item, Pairs, no_pairs, pair, DocumentTree, flat, flat_document}
use Rattle.yf_rule_sets.specs.RuleSets.Nodes.{NumberedNode, IsNodeOf, items_of, pairs_of, roots_from}
use Rattle.yf_rule_sets.specs.declared.facts.node_context.Around.{Around}
use Rattle.yf_rule_sets.specs.declared.facts.node_context.Around.TheVariants.{Nothing, Entries, Unknown}
use Rattle.yf_rule_sets.specs.declared.facts.node_context.ContextFrame.{ContextFrame}
use Rattle.yf_rule_sets.specs.declared.facts.node_context.NodeContext.{NodeContext}

-- what is around the nodes in a collection with entries at that column
abbrev pub held : Option ℕ → Around
held None = Unknown
held (Some column) = Entries column

-- the state `key` of a mapping after a key or a value; the flag says whether the entry of the key has no `?`
abbrev pub turned : Bool → Option Bool → Option Bool
turned m None = Some m
turned m (Some n) = None

-- the state of an open collection after a node in it
abbrev pub past : Bool → ContextFrame → ContextFrame
past m l = record { column = l.column; is_map = l.is_map; key = if l.is_map then turned m l.key else l.key }

-- whether the next node is the value of a key without `?`
abbrev pub is_beside : Option Bool → Bool
is_beside None = false
is_beside (Some m) = m

abbrev pub opened : Bool → Option ℕ → ContextFrame
opened is_map column = record { column = column; is_map = is_map; key = None }

-- the open collections after a node, the innermost first
abbrev pub after : Bool → List ContextFrame → List ContextFrame
after m [] = []
after m (l ∷ st) = past m l ∷ st

-- what is around the next node
abbrev pub outer : List ContextFrame → Around
outer [] = Nothing
outer (l ∷ st) = held l.column

-- whether the next node is the value of a key without `?`
abbrev pub beside : List ContextFrame → Bool
beside [] = false
beside (l ∷ st) = l.is_map && is_beside l.key

-- the open collections after one event
abbrev pub next : EventValue → Option ℕ → Bool → List ContextFrame → List ContextFrame
next stream_starts c m st = st
next stream_ends c m st = st
next (document_starts marked) c m st = st
next (document_ends closed) c m st = st
next (sequence_starts flow props) c m st = opened false c ∷ after m st
next sequence_ends c m st = drop 1 st
next (mapping_starts flow props) c m st = opened true c ∷ after m st
next mapping_ends c m st = drop 1 st
next (scalar_node props style text) c m st = after m st
next (alias_node name) c m st = after m st

-- the context of the next node, from the column and offset of its own entries
abbrev pub stand_in : List ContextFrame → Option ℕ → ℕ → NodeContext
stand_in st column first = record { outer = outer st; is_implicit_value = beside st; column = column; first = first }

-- a node, by the index of the event that begins it: what is around it, and whether it is the value of a key without `?`
pub record Stood : Type 0 where
  pub at : ℕ
  pub around : Around
  pub beside : Bool

abbrev pub stood : ℕ → Around → Bool → Stood
stood i a b = record { at = i; around = a; beside = b }

-- the node that an event begins, with what is around it, or nothing
abbrev pub begun : EventValue → ℕ → List ContextFrame → List Stood
begun stream_starts i st = []
begun stream_ends i st = []
begun (document_starts marked) i st = []
begun (document_ends closed) i st = []
begun (sequence_starts flow props) i st = stood i (outer st) (beside st) ∷ []
begun sequence_ends i st = []
begun (mapping_starts flow props) i st = stood i (outer st) (beside st) ∷ []
begun mapping_ends i st = []
begun (scalar_node props style text) i st = stood i (outer st) (beside st) ∷ []
begun (alias_node name) i st = stood i (outer st) (beside st) ∷ []

-- the nodes that the events begin, the first of which has the index i, with what is around them
abbrev pub run : (ℕ → Option ℕ) → (ℕ → Bool) → ℕ → List ContextFrame → List EventInText → List Stood
run c m i st [] = []
run c m i st (e ∷ es) = begun e.event i st ++ run c m (i + 1) (next e.event (c i) (m i) st) es

-- The nodes of trees. A node begins at the event of index i.

abbrev mutual
  pub stood_in : (ℕ → Option ℕ) → (ℕ → Bool) → ℕ → Around → Bool → Node → List Stood
  stood_in c m i a b (scalar at props style text lines) = stood i a b ∷ []
  stood_in c m i a b (alias at name) = stood i a b ∷ []
  stood_in c m i a b (sequence at flow props items) = stood i a b ∷ stood_in_items c m (i + 1) (held (c i)) items
  stood_in c m i a b (mapping at flow props pairs) = stood i a b ∷ stood_in_pairs c m (i + 1) (held (c i)) pairs

  pub stood_in_items : (ℕ → Option ℕ) → (ℕ → Bool) → ℕ → Around → Items → List Stood
  stood_in_items c m i a no_items = []
  stood_in_items c m i a (item x xs) = stood_in c m i a false x ++ stood_in_items c m (i + length (flat x)) a xs

  pub stood_in_pairs : (ℕ → Option ℕ) → (ℕ → Bool) → ℕ → Around → Pairs → List Stood
  stood_in_pairs c m i a no_pairs = []
  stood_in_pairs c m i a (pair k v ps) = stood_in c m i a false k ++ (stood_in c m (i + length (flat k)) a (m i) v
      ++ stood_in_pairs c m (i + length (flat k) + length (flat v)) a ps)

abbrev pub stood_in_documents : (ℕ → Option ℕ) → (ℕ → Bool) → ℕ → List DocumentTree → List Stood
stood_in_documents c m i [] = []
stood_in_documents c m i (d ∷ ds) = stood_in c m (i + 1) Nothing false d.root ++ stood_in_documents c m (i + length (flat_document d)) ds

-- What is around a node, as a relation on the nodes of trees.

pub data IsHeld (c : ℕ → Option ℕ) (m : ℕ → Bool) (trees : List DocumentTree) (y : NumberedNode) : Around → Bool → Type 0 where
  by_nothing : Contains (roots_from 1 trees) y → IsHeld c m trees y Nothing false
  by_sequence : {x : NumberedNode} → IsNodeOf trees x → Contains (items_of x.0 x.1) y → IsHeld c m trees y (held (c x.0)) false
  as_its_key : {x v : NumberedNode} → IsNodeOf trees x → Contains (pairs_of x.0 x.1) (y, v) → IsHeld c m trees y (held (c x.0)) false
  as_its_value : {x k : NumberedNode} → IsNodeOf trees x → Contains (pairs_of x.0 x.1) (k, y) → IsHeld c m trees y (held (c x.0)) (m k.0)
