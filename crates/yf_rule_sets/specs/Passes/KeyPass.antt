-- A pass over the events of a reading that finds repeated keys: its steps, and its findings in each node.
use Rattle.std.specs.Prelude.{◌≡◌, ℕ, ◌+◌, Bool, true, false, not, ◌&&◌, if◌then◌else◌, List, [], ◌∷◌, ◌++◌, length, slice_get, Option, Some, None}
use Rattle.std.specs.BTreeSet.{contains}
use Rattle.std.specs.Cmp.Lexicographic.{slice_cmp}
use Rattle.std.specs.Option.{option_cmp}
use Rattle.std.specs.Ordering.{eq_by_cmp, nat_cmp, ordering_then}
use Rattle.std.specs.declared.cmp.Ordering.{Ordering}
use Rattle.yf_events.specs.Event.{EventValue, EventInText, stream_starts, stream_ends, document_starts, document_ends, sequence_starts, sequence_ends, mapping_starts, mapping_ends, scalar_node, alias_node}
use Rattle.yf_events.specs.Tree.{Node, scalar, alias, sequence, mapping, Items, no_items, item, Pairs, no_pairs, pair, DocumentTree, flat, flat_document}
use Rattle.yf_props.specs.Props.{name_value}
use Rattle.yf_rule_sets.specs.RuleSets.Nodes.{entry_place, key_place, place_or}
use Rattle.yf_rule_sets.specs.declared.rules.repeated_keys.ScalarKey.{ScalarKey}
use Rattle.yf_rule_sets.specs.declared.rules.repeated_keys.KeyedCollection.{KeyedCollection}

-- the text of a scalar key, and its resolved tag from the list of tags
abbrev pub KeyValue : Type 0
KeyValue = List ℕ × Option (Option (List ℕ))

abbrev pub value_cmp : KeyValue → KeyValue → Ordering
value_cmp a b = ordering_then (slice_cmp nat_cmp a.0 b.0) (option_cmp (option_cmp (slice_cmp nat_cmp)) a.1 b.1)

abbrev pub has_key : KeyValue → List KeyValue → Bool
has_key w [] = false
has_key w (u ∷ us) = if eq_by_cmp value_cmp u w then true else has_key w us

-- an open collection: whether it is a mapping, whether a value comes next, and its scalar keys so far
pub record OpenCollection : Type 0 where
  pub is_map : Bool
  pub at_value : Bool
  pub keys : List KeyValue

-- the next node in the collection is a key
abbrev pub takes_key : OpenCollection → Bool
takes_key l = l.is_map && not l.at_value

abbrev pub past : OpenCollection → OpenCollection
past l = record { is_map = l.is_map; at_value = not l.at_value; keys = l.keys }

abbrev pub add_key : Option KeyValue → List KeyValue → List KeyValue
add_key None ks = ks
add_key (Some w) ks = w ∷ ks

abbrev pub past_key : Option KeyValue → OpenCollection → OpenCollection
past_key w l = record { is_map = l.is_map; at_value = not l.at_value; keys = if takes_key l then add_key w l.keys else l.keys }

abbrev pub new_collection : Bool → OpenCollection
new_collection is_map = record { is_map = is_map; at_value = false; keys = [] }

-- the open collections after a node, the innermost first
abbrev pub after : Option KeyValue → List OpenCollection → List OpenCollection
after w [] = []
after w (l ∷ st) = past_key w l ∷ st

abbrev pub without_first : List OpenCollection → List OpenCollection
without_first [] = []
without_first (l ∷ st) = st

-- whether a scalar repeats a key
abbrev pub repeats_in : KeyValue → List OpenCollection → Bool
repeats_in w [] = false
repeats_in w (l ∷ st) = takes_key l && has_key w l.keys

-- the open collections after one event; `tag` is the tag of its node
abbrev pub next : EventValue → Option (Option (List ℕ)) → List OpenCollection → List OpenCollection
next stream_starts tag st = st
next stream_ends tag st = st
next (document_starts marked) tag st = st
next (document_ends closed) tag st = st
next (sequence_starts flow props) tag st = new_collection false ∷ after None st
next sequence_ends tag st = without_first st
next (mapping_starts flow props) tag st = new_collection true ∷ after None st
next mapping_ends tag st = without_first st
next (scalar_node props style text) tag st = after (Some (text, tag)) st
next (alias_node name) tag st = after None st

abbrev pub is_repeat : EventValue → Option (Option (List ℕ)) → List OpenCollection → Bool
is_repeat (scalar_node props style text) tag st = repeats_in (text, tag) st
is_repeat _ tag st = false

-- the offset of a key: its start, or, if it is empty, that of its entry's `:` or `?`
abbrev pub event_place : EventInText → ℕ
event_place e = place_or e.span (entry_place e.entry)

abbrev pub offset_if : Bool → ℕ → List ℕ
offset_if true o = o ∷ []
offset_if false o = []

-- the findings from the event of index i on
abbrev pub run : List (Option (List ℕ)) → ℕ → List OpenCollection → List EventInText → List ℕ
run tags i st [] = []
run tags i st (e ∷ es) = offset_if (is_repeat e.event (slice_get tags i) st) (event_place e) ++ run tags (i + 1) (next e.event (slice_get tags i) st) es

-- The findings in trees. A node begins at the event of index i.

abbrev pub key_of : List (Option (List ℕ)) → ℕ → Node → Option KeyValue
key_of tags i (scalar at props style text lines) = Some (text, slice_get tags i)
key_of tags i (alias at name) = None
key_of tags i (sequence at flow props items) = None
key_of tags i (mapping at flow props pairs) = None

abbrev pub is_known : Option KeyValue → List KeyValue → Bool
is_known None ks = false
is_known (Some w) ks = has_key w ks

abbrev pub is_known_in : Option KeyValue → List OpenCollection → Bool
is_known_in None st = false
is_known_in (Some w) st = repeats_in w st

abbrev mutual
  pub found_in : List (Option (List ℕ)) → ℕ → Node → List ℕ
  found_in tags i (scalar at props style text lines) = []
  found_in tags i (alias at name) = []
  found_in tags i (sequence at flow props items) = found_in_items tags (i + 1) items
  found_in tags i (mapping at flow props pairs) = found_in_pairs tags (i + 1) [] pairs

  pub found_in_items : List (Option (List ℕ)) → ℕ → Items → List ℕ
  found_in_items tags i no_items = []
  found_in_items tags i (item x xs) = found_in tags i x ++ found_in_items tags (i + length (flat x)) xs

  pub found_in_pairs : List (Option (List ℕ)) → ℕ → List KeyValue → Pairs → List ℕ
  found_in_pairs tags i ks no_pairs = []
  found_in_pairs tags i ks (pair k v ps) = offset_if (is_known (key_of tags i k) ks) (key_place k) ++ (found_in tags i k ++ (found_in tags (i + length (flat k)) v
      ++ found_in_pairs tags (i + length (flat k) + length (flat v)) (add_key (key_of tags i k) ks) ps))

abbrev pub found_in_documents : List (Option (List ℕ)) → ℕ → List DocumentTree → List ℕ
found_in_documents tags i [] = []
found_in_documents tags i (d ∷ ds) = found_in tags (i + 1) d.root ++ found_in_documents tags (i + length (flat_document d)) ds

-- The state in the code.

abbrev pub key_value : ScalarKey → KeyValue
key_value k = (k.text.now, Some (name_value k.tag))

abbrev pub key_cmp : ScalarKey → ScalarKey → Ordering
key_cmp a b = ordering_then (slice_cmp nat_cmp a.text.now b.text.now) (option_cmp (λ x y. slice_cmp nat_cmp x.now y.now) a.tag b.tag)

-- whether two keys are equal
abbrev pub same_value : KeyValue → KeyValue → Bool
same_value a b = eq_by_cmp value_cmp a b

-- whether a key is in a list
abbrev pub holds_key : KeyValue → List ScalarKey → Bool
holds_key w [] = false
holds_key w (k ∷ ks) = if same_value (key_value k) w then true else holds_key w ks

-- the collection with one more key
abbrev pub with_key : KeyValue → OpenCollection → OpenCollection
with_key w l = record { is_map = l.is_map; at_value = l.at_value; keys = w ∷ l.keys }

-- the state of an open collection in the code; `own` are its first few keys
pub record IsCollection (own : List ScalarKey) (collection : KeyedCollection) (l : OpenCollection) : Type 0 where
  pub same_kind : collection.is_map ≡ l.is_map
  pub same_turn : collection.at_value ≡ l.at_value
  pub same_keys : (k : ScalarKey) → (if holds_key (key_value k) own then true else contains key_cmp collection.more k) ≡ has_key (key_value k) l.keys

-- the innermost collection, with its keys at the end of the list
pub record IsLast (outer ks : List ScalarKey) (collection : KeyedCollection) (l : OpenCollection) : Type 0 where
  pub own : List ScalarKey
  pub keys : ks ≡ outer ++ own
  pub begins : length outer ≡ collection.first
  pub collection_is : IsCollection own collection l

pub data AreCollections : List ScalarKey → List KeyedCollection → List OpenCollection → Type 0 where
  no_collections : {ks : List ScalarKey} → AreCollections ks [] []
  one_collection : {outer ks : List ScalarKey} {collection : KeyedCollection} {l : OpenCollection} {collections : List KeyedCollection} {ls : List OpenCollection} → IsLast outer ks collection l → AreCollections outer collections ls → AreCollections ks (collection ∷ collections) (l ∷ ls)
